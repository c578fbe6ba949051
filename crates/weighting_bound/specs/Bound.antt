-- To be believed: the answer for the bound that a place weighting gives to a place.
use Rattle.std.specs.Prelude.{Ok, Err}
use Rattle.refusals.specs.Given.{Answer, Fault}
use Rattle.std.specs.Prelude.{ℕ, ◌+◌, ◌/◌, cond, List, [], ◌∷◌, ltb, leb, eqb, ℤ, pos, ◌*ℤ◌, ◌≤ℤ◌, ◌<ℤ◌, length}
use Rattle.ground.specs.Parts.{up}
use Rattle.net.specs.Net.{Net}
use Rattle.weighting_sums.specs.Weighting.{entry, weight, PlaceInvariant, NoNegative}
use Rattle.weighting_sums.specs.Tests.{lowest_transition, has_negative, all_zero}
use Rattle.weighting_bound.specs.declared.NoBoundCause.{NoBoundCause}
use Rattle.weighting_bound.specs.declared.NoBoundCause.TheVariants.{NotInvariant, Negative, NotPositive}
use Rattle.weighting_bound.specs.declared.Bound.{Bound}
use Rattle.weighting_bound.specs.declared.Bound.TheVariants.{Bounded, NoBound}
use Rattle.refusals.specs.Given.{refuse, or_else, marked_fault}

-- refusals 1, 2, 18, 3 and 17, then 8, then 13 for a bound: "a place number not below P"
abbrev pub bound_fault : Net → List ℕ → List ℤ → ℕ → Fault
bound_fault net initial y p =
    or_else (marked_fault net initial (eqb (length y) net.places)) (or_else (refuse (all_zero y) 8 0) (refuse (leb net.places p) 13 0))

-- b is "the whole part of" s / d
pub record WholePart (s d : ℤ) (b : ℕ) : Type 0 where
  pub low : (pos b *ℤ d) ≤ℤ s
  pub high : s <ℤ (pos (b + 1) *ℤ d)

-- what each answer says of a question that is not refused
abbrev pub Judged : Net → List ℕ → List ℤ → ℕ → Bound → Type 0
Judged net initial y p (Bounded b) = PlaceInvariant net y × NoNegative y × (pos 0 <ℤ entry y p) × WholePart (weight net y initial) (entry y p) b
Judged net initial y p (NoBound NotInvariant) = PlaceInvariant net y → ⊥
Judged net initial y p (NoBound Negative) = PlaceInvariant net y × (NoNegative y → ⊥)
Judged net initial y p (NoBound NotPositive) = PlaceInvariant net y × NoNegative y × (entry y p ≤ℤ pos 0)

-- "the whole part of (sum of y x initial marking) / y(p). Otherwise the answer is no bound, with its cause: not invariant,
-- a negative entry, or y(p) not positive, tried in that order."
unfoldable pub found_bound : Net → List ℕ → List ℤ → ℕ → Bound
found_bound net initial y p =
    cond (ltb (lowest_transition net y) net.transitions) (NoBound NotInvariant)
    (cond (has_negative y) (NoBound Negative)
    (cond (ltb 0 (up (entry y p))) (Bounded (up (weight net y initial) / up (entry y p))) (NoBound NotPositive)))

abbrev pub bound_of : Net → List ℕ → List ℤ → ℕ → Answer Bound
bound_of net initial y p = or_else (bound_fault net initial y p) (Ok (found_bound net initial y p))

-- the numbers for each case: 81 00 and the bound; 81 01 and the cause's number, in the order they are tried;
-- 82, a refusal's number and position
abbrev pub cause_number : NoBoundCause → ℕ
cause_number NotInvariant = 1
cause_number Negative = 2
cause_number NotPositive = 3

abbrev pub bound_numbers : Answer Bound → List ℕ
bound_numbers (Ok (Bounded b)) = 0x81 ∷ 0 ∷ b ∷ []
bound_numbers (Ok (NoBound why)) = 0x81 ∷ 1 ∷ cause_number why ∷ []
bound_numbers (Err r) = 0x82 ∷ r.number ∷ r.at ∷ []
