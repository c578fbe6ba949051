-- To be believed: the answer for a transition weighting.
use Rattle.std.specs.Prelude.{Ok, Err}
use Rattle.refusals.specs.Given.{Answer, or_else}
use Rattle.std.specs.Prelude.{ℕ, cond, List, [], ◌∷◌, ltb, ℤ}
use Rattle.net.specs.Net.{Net}
use Rattle.weighting_sums.specs.Tests.{lowest_place, has_negative}
use Rattle.weighting.specs.Tests.{weighting_fault}
use Rattle.weighting.specs.declared.TransitionWeighting.{TransitionWeighting}
use Rattle.weighting.specs.declared.TransitionWeighting.TheVariants.{NotInvariant, Invariant, Proper}

-- a fault refuses; else the lowest failing place p, if there is one of the P; else proper, unless an entry is negative
abbrev pub transition_of : Net → List ℤ → Answer TransitionWeighting
transition_of net x =
    or_else (weighting_fault net net.transitions x)
    (cond (ltb (lowest_place net x) net.places) (Ok (NotInvariant (lowest_place net x))) (cond (has_negative x) (Ok Invariant) (Ok Proper)))

-- the numbers for each case: 81 00 (invariant); 81 01 and the place; 81 02 (proper); 82, a refusal's number and position
abbrev pub transition_numbers : Answer TransitionWeighting → List ℕ
transition_numbers (Ok Invariant) = 0x81 ∷ 0 ∷ []
transition_numbers (Ok (NotInvariant p)) = 0x81 ∷ 1 ∷ p ∷ []
transition_numbers (Ok Proper) = 0x81 ∷ 2 ∷ []
transition_numbers (Err r) = 0x82 ∷ r.number ∷ r.at ∷ []
