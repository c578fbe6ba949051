-- What the answers for weightings mean, by the published definition of weightings. Assumes nothing.
use Rattle.std.specs.Prelude.{Ok}
use Rattle.refusals.specs.Given.{Answer}
use Prim.Native.Nat.{ℕ}
use mathlib.Core.Path.{◌≡◌, refl, sym, ◌∙◌}
use mathlib.Core.Bool.{Bool, true, false, cond}
use mathlib.Core.Logic.{◌↔◌}
use mathlib.Core.List.{List}
use native.Mathlib.Omega.{arith}
use lib.Dec.{ltb}
use lib.IntN.{ℤ}
use Rattle.net.specs.Net.{Net}
use Rattle.weighting_sums.specs.Weighting.{place_sum, PlaceInvariant, transition_sum, TransitionInvariant, NoNegative, Lowest}
use Rattle.weighting_sums.specs.Tests.{lowest_transition, lowest_place, has_negative}
use Rattle.weighting.specs.Allowed.{Allowed}
use Rattle.weighting.specs.Place.{place_of}
use Rattle.weighting.specs.declared.PlaceWeighting.TheVariants as place
use Rattle.weighting.specs.Transition.{transition_of}
use Rattle.weighting.specs.declared.TransitionWeighting.{TransitionWeighting}
use Rattle.weighting.specs.declared.TransitionWeighting.TheVariants as transition
use Rattle.weighting.proofs.Allowed.{of_allowed}
use Rattle.weighting_sums.proofs.Lowest.{named, unnamed, no_negative_of, of_no_negative}

-- ---- accepted exactly if the published definition holds, and the named one is the lowest at which it fails
module _ (net : Net) (y : List ℤ) (ok : Allowed net net.places y) where
  place_is : place_of net y ≡ cond (ltb (lowest_transition net y) net.transitions) (Ok (place.NotInvariant (lowest_transition net y))) (Ok place.Invariant)
  place_is = rw (of_allowed net net.places y ok)

  pub place_accepted : (place_of net y ≡ Ok place.Invariant) ↔ PlaceInvariant net y
  place_accepted =
      let u = unnamed (place_sum net y) net.transitions (λ i. Ok (place.NotInvariant i)) (λ i k e. cc) (Ok place.Invariant) (place_of net y) place_is (Ok place.Invariant) (λ i e. let z : ◌≡◌ {A = ℕ} 0 1 = cc in omega arith) in
      (λ e. record { at = (u.0 e).0 }, λ i. u.1 (i.at, refl))

  pub place_fails_at : (t : ℕ) → (place_of net y ≡ Ok (place.NotInvariant t)) ↔ Lowest (place_sum net y) net.transitions t
  place_fails_at = named (place_sum net y) net.transitions (λ i. Ok (place.NotInvariant i)) (λ i k e. cc) (Ok place.Invariant) (place_of net y) place_is (λ i e. let z : ◌≡◌ {A = ℕ} 0 1 = cc in omega arith)

module _ (net : Net) (x : List ℤ) (ok : Allowed net net.transitions x) where
  transition_is : transition_of net x ≡ cond (ltb (lowest_place net x) net.places) (Ok (transition.NotInvariant (lowest_place net x))) (cond (has_negative x) (Ok transition.Invariant) (Ok transition.Proper))
  transition_is = rw (of_allowed net net.transitions x ok)

  -- what is answered where no place fails
  abbrev signed : Answer TransitionWeighting
  signed = cond (has_negative x) (Ok transition.Invariant) (Ok transition.Proper)

  -- of the two that are accepted, the sign of the entries decides
  proper_is : (signed ≡ Ok transition.Proper) ↔ NoNegative x
  proper_is = (λ e. go e (has_negative x) refl, λ n. rw (of_no_negative x n))
    where
      go : signed ≡ Ok transition.Proper → (b : Bool) → has_negative x ≡ b → NoNegative x
      go e true q = let z : ◌≡◌ {A = Answer TransitionWeighting} (Ok transition.Invariant) (Ok transition.Proper) = rw q at e in let n : ◌≡◌ {A = ℕ} 0 1 = cc in absurd (omega arith)
      go e false q = no_negative_of x q

  invariant_is : (signed ≡ Ok transition.Invariant) ↔ (NoNegative x → ⊥)
  invariant_is = (λ e n. let z : ◌≡◌ {A = Answer TransitionWeighting} (Ok transition.Proper) (Ok transition.Invariant) = sym (proper_is.1 n) ∙ e in let k : ◌≡◌ {A = ℕ} 0 1 = cc in omega arith, λ f. go f (has_negative x) refl)
    where
      go : (NoNegative x → ⊥) → (b : Bool) → has_negative x ≡ b → signed ≡ Ok transition.Invariant
      go f true q = rw q
      go f false q = absurd (f (no_negative_of x q))

  pub transition_proper_if : (transition_of net x ≡ Ok transition.Proper) ↔ (TransitionInvariant net x × NoNegative x)
  transition_proper_if =
      let u = unnamed (transition_sum net x) net.places (λ i. Ok (transition.NotInvariant i)) (λ i k e. cc) signed (transition_of net x) transition_is (Ok transition.Proper) (λ i e. let z : ◌≡◌ {A = ℕ} 0 1 = cc in omega arith) in
      (λ e. (record { at = (u.0 e).0 }, proper_is.0 (u.0 e).1), λ i. u.1 (i.0.at, proper_is.1 i.1))

  pub transition_accepted : (transition_of net x ≡ Ok transition.Invariant) ↔ (TransitionInvariant net x × (NoNegative x → ⊥))
  transition_accepted =
      let u = unnamed (transition_sum net x) net.places (λ i. Ok (transition.NotInvariant i)) (λ i k e. cc) signed (transition_of net x) transition_is (Ok transition.Invariant) (λ i e. let z : ◌≡◌ {A = ℕ} 0 1 = cc in omega arith) in
      (λ e. (record { at = (u.0 e).0 }, invariant_is.0 (u.0 e).1), λ i. u.1 (i.0.at, invariant_is.1 i.1))

  pub transition_fails_at : (p : ℕ) → (transition_of net x ≡ Ok (transition.NotInvariant p)) ↔ Lowest (transition_sum net x) net.places p
  transition_fails_at = named (transition_sum net x) net.places (λ i. Ok (transition.NotInvariant i)) (λ i k e. cc) signed (transition_of net x) transition_is (λ i. apart i (has_negative x))
    where
      apart : (i : ℕ) (b : Bool) → cond {A = Answer TransitionWeighting} b (Ok transition.Invariant) (Ok transition.Proper) ≡ Ok (transition.NotInvariant i) → ⊥
      apart i true e = let z : ◌≡◌ {A = ℕ} 0 1 = cc in omega arith
      apart i false e = let z : ◌≡◌ {A = ℕ} 0 1 = cc in omega arith
