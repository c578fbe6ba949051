-- To be believed: the answer for a place weighting.
use Rattle.std.specs.Prelude.{Ok, Err}
use Rattle.refusals.specs.Given.{Answer, or_else}
use Rattle.std.specs.Prelude.{ℕ, cond, List, [], ◌∷◌, ltb, ℤ}
use Rattle.net.specs.Net.{Net}
use Rattle.weighting_sums.specs.Tests.{lowest_transition}
use Rattle.weighting.specs.Tests.{weighting_fault}
use Rattle.weighting.specs.declared.PlaceWeighting.{PlaceWeighting}
use Rattle.weighting.specs.declared.PlaceWeighting.TheVariants.{Invariant, NotInvariant}

-- a fault refuses; else the lowest failing transition t, if there is one of the T
abbrev pub place_of : Net → List ℤ → Answer PlaceWeighting
place_of net y =
    or_else (weighting_fault net net.places y)
    (cond (ltb (lowest_transition net y) net.transitions) (Ok (NotInvariant (lowest_transition net y))) (Ok Invariant))

-- the numbers for each case: 81 00; 81 01 and the transition; 82, a refusal's number and position
abbrev pub place_numbers : Answer PlaceWeighting → List ℕ
place_numbers (Ok Invariant) = 0x81 ∷ 0 ∷ []
place_numbers (Ok (NotInvariant t)) = 0x81 ∷ 1 ∷ t ∷ []
place_numbers (Err r) = 0x82 ∷ r.number ∷ r.at ∷ []
