-- Laws of loose nodes: what the code has found of them, and that none is found exactly where the net is wired. Assumes nothing.
use Prim.Native.Nat.{ℕ, ◌+◌, ◌≤◌, ◌<◌}
use mathlib.Core.Path.{◌≡◌, ◌∙◌}
use mathlib.Core.Bool.{Bool, true, false}
use mathlib.Core.Logic.{◌↔◌}
use native.Mathlib.Omega.{arith}
use lib.Dec.{ltb}
use borrow.Author.Tests.{lt-ltb, le-ltb, ltb-true, not-false}
use Rattle.ground.specs.Lists.{first}
use Rattle.ground.proofs.Scan.{Below, first_none, first_below, first_passes, first_found, scan_start, scan_hit, scan_next, scan_end}
use Rattle.net.specs.Net.{Net, Pre, Post}
use Rattle.wiring.specs.Wired.{PlaceWired, TransitionWired, arc, loose_place, loose_transition, lowest_loose_place, lowest_loose_transition}

-- a place: t is where the scan is, r the test's answer there
module _ (net : Net) (p t : ℕ) (lo : Below (arc net p) t) where
  pub place_next : (r : Bool) → r ≡ arc net p t → r ≡ false → Below (arc net p) (t + 1)
  place_next r e q = scan_next (arc net p) t r lo e q

  pub place_held : (r : Bool) → r ≡ arc net p t → r ≡ true → t < net.transitions → false ≡ loose_place net p
  unfolding loose_place
  place_held r e q h =
      let f = scan_hit (arc net p) net.transitions t r lo e q h in rw (← f, lt-ltb t net.transitions h)

  pub place_loose : t ≤ net.transitions → net.transitions ≤ t → true ≡ loose_place net p
  unfolding loose_place
  place_loose h l =
      let f = scan_end (arc net p) net.transitions t lo h l in rw (← f, le-ltb t net.transitions l)

pub ruleset places_scanned = (scan_start, place_next, place_held, place_loose)

-- a transition: p is where the scan is
module _ (net : Net) (t p : ℕ) (lo : Below (λ p. arc net p t) p) where
  pub transition_next : (r : Bool) → r ≡ arc net p t → r ≡ false → Below (λ p. arc net p t) (p + 1)
  transition_next r e q = scan_next (λ p. arc net p t) p r lo e q

  pub transition_held : (r : Bool) → r ≡ arc net p t → r ≡ true → p < net.places → false ≡ loose_transition net t
  unfolding loose_transition
  transition_held r e q h =
      let f = scan_hit (λ p. arc net p t) net.places p r lo e q h in rw (← f, lt-ltb p net.places h)

  pub transition_loose : p ≤ net.places → net.places ≤ p → true ≡ loose_transition net t
  unfolding loose_transition
  transition_loose h l =
      let f = scan_end (λ p. arc net p t) net.places p lo h l in rw (← f, le-ltb p net.places l)

pub ruleset transitions_scanned = (scan_start, transition_next, transition_held, transition_loose)

-- the test of an arc, of the two entries as they were read
pub arc_is : (net : Net) (p t a b : ℕ) (r : Bool) → a ≡ Pre net p t → b ≡ Post net p t → r ≡ ltb 0 (a + b) → r ≡ arc net p t
arc_is net p t a b r ea eb e = e ∙ rw (ea, eb)

-- a place hangs loose exactly if it has no arc
module _ (net : Net) (p : ℕ) where
  pub place_wired : loose_place net p ≡ false → PlaceWired net p
  unfolding loose_place
  place_wired e =
      let h = ltb-true _ _ (not-false (ltb (first (arc net p) net.transitions) net.transitions) e) in
      record {
        transition = first (arc net p) net.transitions;
        named = h;
        arc = ltb-true _ _ (first_passes (arc net p) net.transitions h);
      }

  pub wired_place : PlaceWired net p → loose_place net p ≡ false
  unfolding loose_place
  wired_place w =
      let h = first_found (arc net p) net.transitions w.transition w.named (lt-ltb 0 _ w.arc) in
      rw (lt-ltb (first (arc net p) net.transitions) net.transitions h)

-- so does a transition
module _ (net : Net) (t : ℕ) where
  pub transition_wired : loose_transition net t ≡ false → TransitionWired net t
  unfolding loose_transition
  transition_wired e =
      let h = ltb-true _ _ (not-false (ltb (first (λ p. arc net p t) net.places) net.places) e) in
      record {
        place = first (λ p. arc net p t) net.places;
        here = h;
        arc = ltb-true _ _ (first_passes (λ p. arc net p t) net.places h);
      }

  pub wired_transition : TransitionWired net t → loose_transition net t ≡ false
  unfolding loose_transition
  wired_transition w =
      let h = first_found (λ p. arc net p t) net.places w.place w.here (lt-ltb 0 _ w.arc) in
      rw (lt-ltb (first (λ p. arc net p t) net.places) net.places h)

-- none is found exactly where all are wired
pub wired_places : (net : Net) → (lowest_loose_place net ≡ net.places) ↔ ((p : ℕ) → p < net.places → PlaceWired net p)
wired_places net = (
  λ e p h. place_wired net p (first_below (loose_place net) net.places p (omega arith)),
  λ w. first_none (loose_place net) net.places (λ p h. wired_place net p (w p h)),
)

pub wired_transitions : (net : Net) → (lowest_loose_transition net ≡ net.transitions) ↔ ((t : ℕ) → t < net.transitions → TransitionWired net t)
wired_transitions net = (
  λ e t h. transition_wired net t (first_below (loose_transition net) net.transitions t (omega arith)),
  λ w. first_none (loose_transition net) net.transitions (λ t h. wired_transition net t (w t h)),
)
