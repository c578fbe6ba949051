-- Laws of a pair of a listed marking and a transition: what the code's steps give. Assumes nothing.
use Prim.Native.Nat.{ℕ, ◌+◌, ◌-◌, ◌*◌, ◌≤◌, ◌<◌}
use mathlib.Core.Path.{◌≡◌, sym, ◌∙◌}
use mathlib.Core.Bool.{Bool, true, false}
use mathlib.Core.List.{List}
use lib.ListN.{length, get_or}
use borrow.Author.Tests.{le-leb, lt-leb}
use Rattle.ground.specs.Limits.{token_limit}
use Rattle.ground.proofs.Fill.{Made, make_end}
use Rattle.net.specs.Net.{Net}
use Rattle.lists.proofs.Somes.{none_at}
use Rattle.lists.specs.declared.Kind.{Kind}
use Rattle.lists.specs.declared.Kind.TheVariants.{Closed, Cover}
use Rattle.list_pairs.specs.Fire.{lacks, passes_any, after_any, fired_any}
use Rattle.list_pairs.specs.Look.{unlisted, uncovered, absent}

-- one place's tests: what the code compares
module _ (takes puts entry : ℕ) where
  pub after_number : entry ≤ token_limit → entry + puts - takes ≡ after_any takes puts entry
  after_number h = rw (le-leb entry token_limit h)

  pub after_any_lem : token_limit < entry → entry ≡ after_any takes puts entry
  after_any_lem h = rw (lt-leb entry token_limit h)

pub ruleset afters = (after_number, after_any_lem)

module _ (P : ℕ) (pre post : List ℕ) (t : ℕ) (l : List ℕ) where
  pub passes_at : (p : ℕ) → passes_any P pre t l ≡ true → p < length l → lacks (get_or pre (t * P + p) 0) (get_or l p 0) ≡ false
  passes_at p e h = none_at (λ p. lacks (get_or pre (t * P + p) 0) (get_or l p 0)) (length l) e p h

  pub fired_any_lem : (r₀ : List ℕ) (p : ℕ) (r : List ℕ) → Made 0 (λ p. after_any (get_or pre (t * P + p) 0) (get_or post (t * P + p) 0) (get_or l p 0)) r₀ p r → length l ≡ P → length r₀ ≡ P → length r₀ ≤ p → r ≡ fired_any P pre post t l
  fired_any_lem r₀ p r m e f h = rw (e ∙ sym f) (make_end 0 (λ p. after_any (get_or pre (t * P + p) 0) (get_or post (t * P + p) 0) (get_or l p 0)) r₀ p r m h)

-- by the list's kind
module _ (kind : Kind) (net : Net) (n : ℕ) (list : List ℕ) (t : ℕ) (l : List ℕ) (r : Bool) where
  pub absent_closed : kind ≡ Closed → r ≡ unlisted net n list t l → r ≡ absent kind net n list t l
  unfolding absent
  absent_closed q e = rw q e

  pub absent_cover : kind ≡ Cover → r ≡ uncovered net.places net.pre net.post n list t l → r ≡ absent kind net n list t l
  unfolding absent
  absent_cover q e = rw q e

pub ruleset absents = (absent_closed, absent_cover)
