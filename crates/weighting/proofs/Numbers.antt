-- The numbers of each answer tell any two apart: an answer can be read back from them. So each promise has one answer. Assumes nothing.
use Rattle.std.specs.Prelude.{Ok, Err}
use Rattle.refusals.specs.Given.{Answer, refused}
use Prim.Native.Nat.{ℕ}
use mathlib.Core.Path.{◌≡◌, refl, sym, ◌∙◌}
use mathlib.Core.Bool.{cond}
use mathlib.Core.List.{List, [], ◌∷◌}
use lib.Dec.{eqb}
use lib.IntN.{ℤ}
use Rattle.net.specs.Net.{Net}
use Rattle.weighting.specs.Place.{place_of, place_numbers}
use Rattle.weighting.specs.declared.PlaceWeighting.{PlaceWeighting}
use Rattle.weighting.specs.declared.PlaceWeighting.TheVariants as place
use Rattle.weighting.specs.Transition.{transition_of, transition_numbers}
use Rattle.weighting.specs.declared.TransitionWeighting.{TransitionWeighting}
use Rattle.weighting.specs.declared.TransitionWeighting.TheVariants as transition
use Rattle.weighting_sums.proofs.Numbers.{apart}

abbrev place_back : List ℕ → Answer PlaceWeighting
place_back (k ∷ n ∷ at ∷ l) = cond (eqb k 0x81) (Ok (place.NotInvariant at)) (refused n at)
place_back (k ∷ n ∷ []) = Ok place.Invariant
place_back (k ∷ []) = Ok place.Invariant
place_back [] = Ok place.Invariant

place_back_lem : (a : Answer PlaceWeighting) → place_back (place_numbers a) ≡ a
place_back_lem (Ok place.Invariant) = refl
place_back_lem (Ok (place.NotInvariant t)) = refl
place_back_lem (Err r) = refl

abbrev transition_back : List ℕ → Answer TransitionWeighting
transition_back (k ∷ n ∷ at ∷ l) = cond (eqb k 0x81) (Ok (transition.NotInvariant at)) (refused n at)
transition_back (k ∷ n ∷ []) = cond (eqb n 0) (Ok transition.Invariant) (Ok transition.Proper)
transition_back (k ∷ []) = Ok transition.Proper
transition_back [] = Ok transition.Proper

transition_back_lem : (a : Answer TransitionWeighting) → transition_back (transition_numbers a) ≡ a
transition_back_lem (Ok transition.Invariant) = refl
transition_back_lem (Ok (transition.NotInvariant p)) = refl
transition_back_lem (Ok transition.Proper) = refl
transition_back_lem (Err r) = refl

pub place_numbers_apart : (a b : Answer PlaceWeighting) → place_numbers a ≡ place_numbers b → a ≡ b
place_numbers_apart = apart place_numbers place_back place_back_lem

pub transition_numbers_apart : (a b : Answer TransitionWeighting) → transition_numbers a ≡ transition_numbers b → a ≡ b
transition_numbers_apart = apart transition_numbers transition_back transition_back_lem

-- each promise has one answer
pub place_unique : (net : Net) (y : List ℤ) (r r' : Answer PlaceWeighting) → place_numbers r ≡ place_numbers (place_of net y) → place_numbers r' ≡ place_numbers (place_of net y) → r ≡ r'
place_unique net y r r' p q = place_numbers_apart r r' (p ∙ sym q)

pub transition_unique : (net : Net) (x : List ℤ) (r r' : Answer TransitionWeighting) → transition_numbers r ≡ transition_numbers (transition_of net x) → transition_numbers r' ≡ transition_numbers (transition_of net x) → r ≡ r'
transition_unique net x r r' p q = transition_numbers_apart r r' (p ∙ sym q)
