-- "weightings .. don't change" (document 02, E5): no answer about a weighting depends on the marks, whatever they are. Assumes nothing.
use Rattle.std.specs.Prelude.{Ok}
use Rattle.refusals.specs.Given.{Answer, Fault, or_else}
use Prim.Native.Nat.{ℕ}
use mathlib.Core.Path.{◌≡◌, sym, ap, ◌∙◌}
use mathlib.Core.List.{List}
use lib.ListN.{length}
use mathlib.Core.Bool.{cond}
use lib.Dec.{eqb, ltb}
use lib.IntN.{ℤ}
use Rattle.net.specs.Net.{Net}
use Rattle.net.specs.Marks.{remarked}
use Rattle.refusals.proofs.Marks.{remarked_net}
use Rattle.weighting_sums.specs.Tests.{lowest_transition, lowest_place, has_negative}
use Rattle.weighting.specs.Tests.{weighting_fault}
use Rattle.weighting.specs.Place.{place_of, place_numbers}
use Rattle.weighting.specs.Transition.{transition_of, transition_numbers}
use Rattle.weighting.specs.declared.PlaceWeighting.{PlaceWeighting}
use Rattle.weighting.specs.declared.PlaceWeighting.TheVariants as place
use Rattle.weighting.specs.declared.TransitionWeighting.{TransitionWeighting}
use Rattle.weighting.specs.declared.TransitionWeighting.TheVariants as transition
use Rattle.weighting.proofs.Numbers.{place_unique, transition_unique}

module _ (net : Net) (marks : List ℕ) (long : length marks ≡ length net.marks) (y : List ℤ) where
  same_fault : (n : ℕ) → weighting_fault net n y ≡ weighting_fault (remarked net marks) n y
  same_fault n = rw (remarked_net net marks long (eqb (length y) n))

  pub place_unmarked : (r r' : Answer PlaceWeighting) → place_numbers r ≡ place_numbers (place_of net y) → place_numbers r' ≡ place_numbers (place_of (remarked net marks) y) → r ≡ r'
  place_unmarked r r' p q =
      place_unique net y r r' p (q ∙ ap (λ (f : Fault). place_numbers (or_else f (cond (ltb (lowest_transition net y) net.transitions) (Ok (place.NotInvariant (lowest_transition net y))) (Ok place.Invariant)))) (sym (same_fault net.places)))

  pub transition_unmarked : (r r' : Answer TransitionWeighting) → transition_numbers r ≡ transition_numbers (transition_of net y) → transition_numbers r' ≡ transition_numbers (transition_of (remarked net marks) y) → r ≡ r'
  transition_unmarked r r' p q =
      transition_unique net y r r' p (q ∙ ap (λ (f : Fault). transition_numbers (or_else f (cond (ltb (lowest_place net y) net.places) (Ok (transition.NotInvariant (lowest_place net y))) (cond (has_negative y) (Ok transition.Invariant) (Ok transition.Proper))))) (sym (same_fault net.transitions)))
