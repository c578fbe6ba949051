-- To be believed: the tests of which the answers are made, by number. proofs/Lowest.antt and proofs/Zero.antt show that they say what is published.
use Rattle.std.specs.Prelude.{ℕ, Bool, true, false, not, List, length, ltb, leb, eqb, ℤ, pos, negsuc}
use Rattle.ground.specs.Lists.{first}
use Rattle.net.specs.Net.{Net}
use Rattle.weighting_sums.specs.Weighting.{entry, place_sum, transition_sum}

abbrev pub is_zero : ℤ → Bool
is_zero (pos n) = eqb n 0
is_zero (negsuc n) = false

abbrev pub is_negative : ℤ → Bool
is_negative (pos n) = false
is_negative (negsuc n) = true

-- "A no .. names the lowest failing transition or place", or the number of them where none fails
abbrev pub lowest_transition : Net → List ℤ → ℕ
lowest_transition net y = first (λ t. not (is_zero (place_sum net y t))) net.transitions

abbrev pub lowest_place : Net → List ℤ → ℕ
lowest_place net x = first (λ p. not (is_zero (transition_sum net x p))) net.places

-- the lowest entry that is negative, or (false) that is not 0, or the number of entries
abbrev pub picks : Bool → ℤ → Bool
picks true z = is_negative z
picks false z = not (is_zero z)

abbrev pub lowest_entry : Bool → List ℤ → ℕ
lowest_entry negative y = first (λ k. picks negative (entry y k)) (length y)

-- "a negative entry"
abbrev pub has_negative : List ℤ → Bool
has_negative y = ltb (lowest_entry true y) (length y)

-- 8: "a weighting all zero"
abbrev pub all_zero : List ℤ → Bool
all_zero y = leb (length y) (lowest_entry false y)
