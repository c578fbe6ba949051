-- Only for the code's walk, tied to `bad_entry` by the promise of `bad_listed`: a marking that may be given, and a list of such.
use Rattle.std.specs.Prelude.{ℕ, ◌≡◌, Bool, true, List, length, get_or, eqb}
use Rattle.ground.specs.Lists.{tally}
use Rattle.refusals.specs.Given.{token_bad}
use Rattle.list_refusals.specs.Given.{bad_entry}

-- no place has tokens that may not be given
abbrev pub fine_marking : List ℕ → List ℕ → Bool
fine_marking caps m = eqb (tally (λ p. token_bad (get_or caps p 0) (get_or m p 0)) (length m)) 0

-- the answer yes says that no entry of the list is one that may not be given
pub record FineList (P : ℕ) (caps list : List ℕ) (r : Bool) : Type 0 where
  pub none : r ≡ true → length list ≡ bad_entry P caps list
