-- Laws of a marking looked for in a list: by the list's kind, and of a marking that was loaded. Assumes nothing.
use Prim.Native.Nat.{ℕ}
use mathlib.Core.Path.{◌≡◌, ap, ◌∙◌}
use mathlib.Core.Bool.{Bool}
use mathlib.Core.List.{List}
use Rattle.lists.specs.declared.Kind.{Kind}
use Rattle.lists.specs.declared.Kind.TheVariants.{Closed, Cover}
use Rattle.lists.specs.Match.{alike, covering, matches, held}

module _ (kind : Kind) (l m : List ℕ) (r : Bool) where
  pub match_closed : kind ≡ Closed → r ≡ alike l m → r ≡ matches kind l m
  unfolding matches
  match_closed q e = rw q e

  pub match_cover : kind ≡ Cover → r ≡ covering l m → r ≡ matches kind l m
  unfolding matches
  match_cover q e = rw q e

pub ruleset match_kinds = (match_closed, match_cover)

-- m is the marking g that was loaded
pub held_as : (m g : List ℕ) → m ≡ g → (kind : Kind) (P n : ℕ) (list : List ℕ) (r : Bool) → r ≡ held kind P n list m → r ≡ held kind P n list g
held_as m g e kind P n list r q = q ∙ ap (held kind P n list) e
