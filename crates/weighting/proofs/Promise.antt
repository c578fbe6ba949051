-- Demands 2 and 1, from the promise: what is true of the net, over the published relation, where an entry has answered so. Assumes nothing.
use Rattle.std.specs.Prelude.{Ok}
use Rattle.refusals.specs.Given.{Answer}
use Rattle.refusals.proofs.Exactly.{not_refused}
use Prim.Native.Nat.{ℕ, ◌<◌}
use mathlib.Core.Path.{◌≡◌, sym, ◌∙◌}
use mathlib.Core.Logic.{◌↔◌}
use mathlib.Core.List.{List}
use lib.ListN.{length}
use lib.IntN.{ℤ, pos}
use Rattle.net.specs.Net.{Net}
use Rattle.net.specs.Firing.{Fires, Reachable}
use Rattle.weighting_sums.specs.Weighting.{entry, place_sum, transition_sum, PlaceInvariant, TransitionInvariant, NoNegative, weight, count, Lowest}
use Rattle.weighting.specs.Allowed.{Allowed}
use Rattle.weighting.specs.Place.{place_of, place_numbers}
use Rattle.weighting.specs.declared.PlaceWeighting.{PlaceWeighting}
use Rattle.weighting.specs.declared.PlaceWeighting.TheVariants as place
use Rattle.weighting.specs.Transition.{transition_of, transition_numbers}
use Rattle.weighting.specs.declared.TransitionWeighting.{TransitionWeighting}
use Rattle.weighting.specs.declared.TransitionWeighting.TheVariants as transition
use Rattle.weighting.proofs.Numbers.{place_numbers_apart, transition_numbers_apart}
use Rattle.weighting.proofs.Meaning.{place_accepted, place_fails_at, transition_proper_if, transition_accepted, transition_fails_at}
use Rattle.weighting_sums.proofs.Meaning.{keeps_sum, never_reached, counts_return}
use Rattle.weighting.proofs.Exactly.{place_answered_allowed, transition_answered_allowed}

-- `place_weighting`
module _ (net : Net) (y : List ℤ) (r : Answer PlaceWeighting) (promise : place_numbers r ≡ place_numbers (place_of net y)) where
  place_is : r ≡ place_of net y
  place_is = place_numbers_apart r (place_of net y) promise

  -- accepted if it meets its definition, and only then
  pub place_invariant_exactly : (r ≡ Ok place.Invariant) ↔ (Allowed net net.places y × PlaceInvariant net y)
  place_invariant_exactly = (there, λ h. place_is ∙ (place_accepted net y h.0).1 h.1)
    where
      there : r ≡ Ok place.Invariant → Allowed net net.places y × PlaceInvariant net y
      there e =
          let ok = place_answered_allowed net y r promise (λ n at q. not_refused place.Invariant n at (sym e ∙ q)) in
          (ok, (place_accepted net y ok).0 (sym place_is ∙ e))

  -- a no names the lowest transition at which the sum is not 0
  pub place_no_exactly : (t : ℕ) → (r ≡ Ok (place.NotInvariant t)) ↔ (Allowed net net.places y × Lowest (place_sum net y) net.transitions t)
  place_no_exactly t = (there, λ h. place_is ∙ (place_fails_at net y h.0 t).1 h.1)
    where
      there : r ≡ Ok (place.NotInvariant t) → Allowed net net.places y × Lowest (place_sum net y) net.transitions t
      there e =
          let ok = place_answered_allowed net y r promise (λ n at q. not_refused (place.NotInvariant t) n at (sym e ∙ q)) in
          (ok, (place_fails_at net y ok t).0 (sym place_is ∙ e))

  -- Along any firing word an accepted place weighting keeps its sum
  pub accepted_keeps_sum : r ≡ Ok place.Invariant → (m w m' : List ℕ) → Fires net m w m' → weight net y m' ≡ weight net y m
  accepted_keeps_sum e m w m' f = keeps_sum y (place_invariant_exactly.0 e).1 f

  -- so a marking with another sum is never reached
  pub accepted_never_reached : r ≡ Ok place.Invariant → (m m' : List ℕ) → (weight net y m' ≡ weight net y m → ⊥) → Reachable net m m' → ⊥
  accepted_never_reached e m m' n f = never_reached y (place_invariant_exactly.0 e).1 n f

-- `transition_weighting`
module _ (net : Net) (x : List ℤ) (r : Answer TransitionWeighting) (promise : transition_numbers r ≡ transition_numbers (transition_of net x)) where
  transition_is : r ≡ transition_of net x
  transition_is = transition_numbers_apart r (transition_of net x) promise

  pub transition_proper_exactly : (r ≡ Ok transition.Proper) ↔ (Allowed net net.transitions x × (TransitionInvariant net x × NoNegative x))
  transition_proper_exactly = (there, λ h. transition_is ∙ (transition_proper_if net x h.0).1 h.1)
    where
      there : r ≡ Ok transition.Proper → Allowed net net.transitions x × (TransitionInvariant net x × NoNegative x)
      there e =
          let ok = transition_answered_allowed net x r promise (λ n at q. not_refused transition.Proper n at (sym e ∙ q)) in
          (ok, (transition_proper_if net x ok).0 (sym transition_is ∙ e))

  pub transition_invariant_exactly : (r ≡ Ok transition.Invariant) ↔ (Allowed net net.transitions x × (TransitionInvariant net x × (NoNegative x → ⊥)))
  transition_invariant_exactly = (there, λ h. transition_is ∙ (transition_accepted net x h.0).1 h.1)
    where
      there : r ≡ Ok transition.Invariant → Allowed net net.transitions x × (TransitionInvariant net x × (NoNegative x → ⊥))
      there e =
          let ok = transition_answered_allowed net x r promise (λ n at q. not_refused transition.Invariant n at (sym e ∙ q)) in
          (ok, (transition_accepted net x ok).0 (sym transition_is ∙ e))

  pub transition_no_exactly : (p : ℕ) → (r ≡ Ok (transition.NotInvariant p)) ↔ (Allowed net net.transitions x × Lowest (transition_sum net x) net.places p)
  transition_no_exactly p = (there, λ h. transition_is ∙ (transition_fails_at net x h.0 p).1 h.1)
    where
      there : r ≡ Ok (transition.NotInvariant p) → Allowed net net.transitions x × Lowest (transition_sum net x) net.places p
      there e =
          let ok = transition_answered_allowed net x r promise (λ n at q. not_refused (transition.NotInvariant p) n at (sym e ∙ q)) in
          (ok, (transition_fails_at net x ok p).0 (sym transition_is ∙ e))

  -- a firing word in which each transition stands as often as a proper weighting says leads back to where it started
  pub proper_returns : r ≡ Ok transition.Proper → (m w m' : List ℕ) → ((t : ℕ) → t < net.transitions → entry x t ≡ pos (count w t)) → length m ≡ net.places → Fires net m w m' → m' ≡ m
  proper_returns e m w m' c long f = counts_return x (transition_proper_exactly.0 e).1.0 c long f
