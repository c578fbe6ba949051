-- "Given exactly when": what is allowed is answered, what is answered is allowed, and each refusal is the one of the first demand that does not hold.
-- Each is said of whatever keeps the entry's promise. Assumes nothing.
use Rattle.std.specs.Prelude.{Ok}
use Rattle.refusals.specs.Given.{Answer, refused}
use Prim.Native.Nat.{ℕ}
use mathlib.Core.Path.{◌≡◌}
use mathlib.Core.Bool.{Bool, true, false, cond}
use mathlib.Core.Logic.{◌↔◌}
use mathlib.Core.List.{List}
use lib.Dec.{ltb}
use lib.IntN.{ℤ}
use Rattle.net.specs.Net.{Net}
use Rattle.refusals.proofs.Exactly.{Answers, answers_of, not_refused, exactly_refused, is_answered, is_allowed}
use Rattle.weighting_sums.specs.Tests.{lowest_transition, lowest_place, has_negative}
use Rattle.weighting.specs.Tests.{weighting_fault}
use Rattle.weighting.specs.Allowed.{Allowed, Refusal}
use Rattle.weighting.specs.Place.{place_of, place_numbers}
use Rattle.weighting.specs.declared.PlaceWeighting.{PlaceWeighting}
use Rattle.weighting.specs.declared.PlaceWeighting.TheVariants as place
use Rattle.weighting.specs.Transition.{transition_of, transition_numbers}
use Rattle.weighting.specs.declared.TransitionWeighting.{TransitionWeighting}
use Rattle.weighting.specs.declared.TransitionWeighting.TheVariants as transition
use Rattle.weighting.proofs.Numbers.{place_numbers_apart, transition_numbers_apart}
use Rattle.weighting.proofs.Allowed.{allowed_of, of_allowed, weighting_chain}

-- a place weighting
module _ (net : Net) (y : List ℤ) (r : Answer PlaceWeighting) (promise : place_numbers r ≡ place_numbers (place_of net y)) where
  place_made : Answers (weighting_fault net net.places y) r
  place_made =
      answers_of (weighting_fault net net.places y) _ r (place_numbers_apart r (place_of net y) promise)
      (λ n at q e. none (ltb (lowest_transition net y) net.transitions) n at e)
    where
      none : (b : Bool) (n at : ℕ) → cond b (Ok (place.NotInvariant (lowest_transition net y))) (Ok place.Invariant) ≡ refused n at → ⊥
      none true n at e = not_refused (place.NotInvariant (lowest_transition net y)) n at e
      none false n at e = not_refused place.Invariant n at e

  pub place_allowed_answered : Allowed net net.places y → (n at : ℕ) → r ≡ refused n at → ⊥
  place_allowed_answered = is_answered place_made (of_allowed net net.places y)

  pub place_answered_allowed : ((n at : ℕ) → r ≡ refused n at → ⊥) → Allowed net net.places y
  place_answered_allowed = is_allowed place_made (allowed_of net net.places y)

  pub place_refused_exactly : (n at : ℕ) → (r ≡ refused n at) ↔ Refusal net net.places y n at
  place_refused_exactly = exactly_refused place_made (weighting_chain net net.places y)

-- a transition weighting
module _ (net : Net) (x : List ℤ) (r : Answer TransitionWeighting) (promise : transition_numbers r ≡ transition_numbers (transition_of net x)) where
  transition_made : Answers (weighting_fault net net.transitions x) r
  transition_made =
      answers_of (weighting_fault net net.transitions x) _ r (transition_numbers_apart r (transition_of net x) promise)
      (λ n at q e. none (ltb (lowest_place net x) net.places) (has_negative x) n at e)
    where
      none : (b c : Bool) (n at : ℕ) → cond b (Ok (transition.NotInvariant (lowest_place net x))) (cond c (Ok transition.Invariant) (Ok transition.Proper)) ≡ refused n at → ⊥
      none true c n at e = not_refused (transition.NotInvariant (lowest_place net x)) n at e
      none false true n at e = not_refused transition.Invariant n at e
      none false false n at e = not_refused transition.Proper n at e

  pub transition_allowed_answered : Allowed net net.transitions x → (n at : ℕ) → r ≡ refused n at → ⊥
  transition_allowed_answered = is_answered transition_made (of_allowed net net.transitions x)

  pub transition_answered_allowed : ((n at : ℕ) → r ≡ refused n at → ⊥) → Allowed net net.transitions x
  transition_answered_allowed = is_allowed transition_made (allowed_of net net.transitions x)

  pub transition_refused_exactly : (n at : ℕ) → (r ≡ refused n at) ↔ Refusal net net.transitions x n at
  transition_refused_exactly = exactly_refused transition_made (weighting_chain net net.transitions x)
