-- To be believed: the two answers to questions about a list, in document 01's numbers, and a claim's answer from its list's.
use Rattle.std.specs.Prelude.{ℕ, Bool, true, false, List, [], ◌∷◌, Ok, Err}
use Rattle.refusals.specs.Given.{Answer}
use Rattle.lists.specs.declared.Failure.{Failure}
use Rattle.lists.specs.declared.Failure.TheVariants.{InitialMissing, ResultMissing}
use Rattle.lists.specs.declared.ListAnswer.{ListAnswer}
use Rattle.lists.specs.declared.ListAnswer.TheVariants as list
use Rattle.lists.specs.declared.ClaimAnswer.{ClaimAnswer}
use Rattle.lists.specs.declared.ClaimAnswer.TheVariants as claim

-- a list's failure: 1, initial missing; 2, result missing, with the marking and the transition
abbrev pub failure_numbers : Failure → List ℕ
failure_numbers InitialMissing = 1 ∷ []
failure_numbers (ResultMissing k t) = 2 ∷ k ∷ t ∷ []

-- a list: 81 00, accepted; 81 01, initial missing; 81 02, marking and transition; 82, a refusal's number and position
abbrev pub numbers : Answer ListAnswer → List ℕ
numbers (Ok list.Accepted) = 0x81 ∷ 0 ∷ []
numbers (Ok (list.Failed why)) = 0x81 ∷ failure_numbers why
numbers (Err r) = 0x82 ∷ r.number ∷ r.at ∷ []

-- a claim: 81 00, shown (never reached, never covered, never stalls); 81 03, not shown; else the list's
abbrev pub claim_numbers : Answer ClaimAnswer → List ℕ
claim_numbers (Ok claim.Shown) = 0x81 ∷ 0 ∷ []
claim_numbers (Ok claim.NotShown) = 0x81 ∷ 3 ∷ []
claim_numbers (Ok (claim.Failed why)) = 0x81 ∷ failure_numbers why
claim_numbers (Err r) = 0x82 ∷ r.number ∷ r.at ∷ []

-- what is claimed of an accepted list: not shown where it is left open, else shown; a list that is not accepted answers by its failure
unfoldable pub claim_of : Answer ListAnswer → Bool → Answer ClaimAnswer
claim_of (Ok list.Accepted) true = Ok claim.NotShown
claim_of (Ok list.Accepted) false = Ok claim.Shown
claim_of (Ok (list.Failed why)) leftOpen = Ok (claim.Failed why)
claim_of (Err r) leftOpen = Err r
