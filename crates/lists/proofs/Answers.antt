-- Laws of the two answers: one can be read back from its numbers, so that they tell any two apart; and a claim's answer from its
-- list's. Assumes nothing.
use Rattle.std.proofs.lemmas.Result.{err_from_is_err_and}
use Rattle.std.specs.Result.{IsErrAnd}
use Rattle.std.specs.Prelude.{Ok, Err}
use Rattle.refusals.specs.declared.Refusal.{Refusal}
use Rattle.refusals.specs.Given.{Answer, refusal, refused}
use Prim.Native.Nat.{ℕ}
use mathlib.Core.Path.{◌≡◌, refl, sym, ap, ◌∙◌}
use mathlib.Core.Bool.{Bool, true, false, cond}
use mathlib.Core.List.{List, [], ◌∷◌}
use mathlib.Core.Logic.{◌↔◌}
use native.Mathlib.Omega.{arith}
use lib.Dec.{eqb}
use Rattle.lists.specs.declared.Failure.{Failure}
use Rattle.lists.specs.declared.Failure.TheVariants.{InitialMissing, ResultMissing}
use Rattle.lists.specs.declared.ListAnswer.{ListAnswer}
use Rattle.lists.specs.declared.ListAnswer.TheVariants as list
use Rattle.lists.specs.declared.ClaimAnswer.{ClaimAnswer}
use Rattle.lists.specs.declared.ClaimAnswer.TheVariants as claim
use Rattle.lists.specs.Answers.{numbers, claim_numbers, claim_of}

-- by how many numbers there are: a case alone, a refusal, a result missing
abbrev list_back : List ℕ → Answer ListAnswer
list_back (k ∷ n ∷ a ∷ t ∷ l) = Ok (list.Failed (ResultMissing a t))
list_back (k ∷ n ∷ a ∷ []) = refused n a
list_back (k ∷ n ∷ []) = cond (eqb n 0) (Ok list.Accepted) (Ok (list.Failed InitialMissing))
list_back (k ∷ []) = Ok list.Accepted
list_back [] = Ok list.Accepted

list_back_lem : (a : Answer ListAnswer) → list_back (numbers a) ≡ a
list_back_lem (Ok list.Accepted) = refl
list_back_lem (Ok (list.Failed InitialMissing)) = refl
list_back_lem (Ok (list.Failed (ResultMissing k t))) = refl
list_back_lem (Err r) = refl

pub numbers_apart : (a b : Answer ListAnswer) → numbers a ≡ numbers b → a ≡ b
numbers_apart a b e = sym (list_back_lem a) ∙ ap list_back e ∙ list_back_lem b

abbrev claim_back : List ℕ → Answer ClaimAnswer
claim_back (k ∷ n ∷ a ∷ t ∷ l) = Ok (claim.Failed (ResultMissing a t))
claim_back (k ∷ n ∷ a ∷ []) = refused n a
claim_back (k ∷ n ∷ []) = cond (eqb n 0) (Ok claim.Shown) (cond (eqb n 1) (Ok (claim.Failed InitialMissing)) (Ok claim.NotShown))
claim_back (k ∷ []) = Ok claim.Shown
claim_back [] = Ok claim.Shown

claim_back_lem : (a : Answer ClaimAnswer) → claim_back (claim_numbers a) ≡ a
claim_back_lem (Ok claim.Shown) = refl
claim_back_lem (Ok claim.NotShown) = refl
claim_back_lem (Ok (claim.Failed InitialMissing)) = refl
claim_back_lem (Ok (claim.Failed (ResultMissing k t))) = refl
claim_back_lem (Err r) = refl

pub claim_numbers_apart : (a b : Answer ClaimAnswer) → claim_numbers a ≡ claim_numbers b → a ≡ b
claim_numbers_apart a b e = sym (claim_back_lem a) ∙ ap claim_back e ∙ claim_back_lem b

-- a claim's answer, where the list's answer is found to be `whole`: at the exit of a `?`, and behind it; b tells whether the claim is left open
module _ (whole : Answer ListAnswer) (leftOpen : Bool) where
  pub claim_refused : (r : Answer ClaimAnswer) (e : Refusal) → IsErrAnd r (λ y. y ≡ e) → Err e ≡ whole → r ≡ claim_of whole leftOpen
  unfolding claim_of
  claim_refused r e h q = let p = err_from_is_err_and r h in rw (p.1, p.2, ← q)

  module _ (found : ListAnswer) (e : Ok found ≡ whole) where
    pub claim_failed : (why : Failure) → found ≡ list.Failed why → Ok (claim.Failed why) ≡ claim_of whole leftOpen
    unfolding claim_of
    claim_failed why q = rw (← e, q)

    module _ (b : Bool) (q : found ≡ list.Accepted) (eb : b ≡ leftOpen) where
      pub claim_open : b ≡ true → Ok claim.NotShown ≡ claim_of whole leftOpen
      unfolding claim_of
      claim_open h = rw (← e, q, sym eb ∙ h)

      pub claim_shown : b ≡ false → Ok claim.Shown ≡ claim_of whole leftOpen
      unfolding claim_of
      claim_shown h = rw (← e, q, sym eb ∙ h)

-- a claim is shown only of an accepted list, where it is not left open
pub shown_claim : (a : Answer ListAnswer) (leftOpen : Bool) → claim_of a leftOpen ≡ Ok claim.Shown → (a ≡ Ok list.Accepted) × (leftOpen ≡ false)
unfolding claim_of
shown_claim (Ok list.Accepted) true e = let z : ◌≡◌ {A = ℕ} 0 1 = cc in absurd (omega arith)
shown_claim (Ok list.Accepted) false e = (refl, refl)
shown_claim (Ok (list.Failed why)) leftOpen e = let z : ◌≡◌ {A = ℕ} 0 1 = cc in absurd (omega arith)
shown_claim (Err r) leftOpen e = let z : ◌≡◌ {A = ℕ} 0 1 = cc in absurd (omega arith)

-- not shown only where it is
pub open_claim : (a : Answer ListAnswer) (leftOpen : Bool) → claim_of a leftOpen ≡ Ok claim.NotShown → (a ≡ Ok list.Accepted) × (leftOpen ≡ true)
unfolding claim_of
open_claim (Ok list.Accepted) true e = (refl, refl)
open_claim (Ok list.Accepted) false e = let z : ◌≡◌ {A = ℕ} 0 1 = cc in absurd (omega arith)
open_claim (Ok (list.Failed why)) leftOpen e = let z : ◌≡◌ {A = ℕ} 0 1 = cc in absurd (omega arith)
open_claim (Err r) leftOpen e = let z : ◌≡◌ {A = ℕ} 0 1 = cc in absurd (omega arith)

-- a claim fails exactly as its list does
pub failed_claim : (a : Answer ListAnswer) (leftOpen : Bool) (why : Failure) → claim_of a leftOpen ≡ Ok (claim.Failed why) → a ≡ Ok (list.Failed why)
unfolding claim_of
failed_claim (Ok list.Accepted) true why e = let z : ◌≡◌ {A = ℕ} 0 1 = cc in absurd (omega arith)
failed_claim (Ok list.Accepted) false why e = let z : ◌≡◌ {A = ℕ} 0 1 = cc in absurd (omega arith)
failed_claim (Ok (list.Failed x)) leftOpen why e = let y : x ≡ why = cc in ap (λ (w : Failure). Ok (list.Failed w)) y
failed_claim (Err r) leftOpen why e = let z : ◌≡◌ {A = ℕ} 0 1 = cc in absurd (omega arith)

-- a claim is refused exactly as its list is
pub refused_claim : (a : Answer ListAnswer) (leftOpen : Bool) (n at : ℕ) → claim_of a leftOpen ≡ refused n at → a ≡ refused n at
unfolding claim_of
refused_claim (Ok list.Accepted) true n at e = let z : ◌≡◌ {A = ℕ} 0 1 = cc in absurd (omega arith)
refused_claim (Ok list.Accepted) false n at e = let z : ◌≡◌ {A = ℕ} 0 1 = cc in absurd (omega arith)
refused_claim (Ok (list.Failed why)) leftOpen n at e = let z : ◌≡◌ {A = ℕ} 0 1 = cc in absurd (omega arith)
refused_claim (Err r) leftOpen n at e = let y : r ≡ refusal n at = cc in ap (λ (x : Refusal). Err x) y

-- a claim's answers, exactly: what accepts its list, or lets it fail, and what leaves the claim open, are told by A, I, N and B
module _ (a : Answer ListAnswer) (leftOpen : Bool) where
  pub shown_is : {A I N : Type 0} → (a ≡ Ok list.Accepted) ↔ (A × I) → (A → (leftOpen ≡ false) ↔ N) → (claim_of a leftOpen ≡ Ok claim.Shown) ↔ (A × (I × N))
  shown_is {A} {I} {N} x y = (there, λ h. sym (claim_shown a leftOpen list.Accepted (sym (x.1 (h.0, h.1.0))) leftOpen refl refl ((y h.0).1 h.1.1)))
    where
      there : claim_of a leftOpen ≡ Ok claim.Shown → A × (I × N)
      there e = let c = shown_claim a leftOpen e in let k = x.0 c.0 in (k.0, (k.1, (y k.0).0 c.1))

  pub open_is : {A I N : Type 0} → (a ≡ Ok list.Accepted) ↔ (A × I) → (A → (leftOpen ≡ true) ↔ N) → (claim_of a leftOpen ≡ Ok claim.NotShown) ↔ (A × (I × N))
  open_is {A} {I} {N} x y = (there, λ h. sym (claim_open a leftOpen list.Accepted (sym (x.1 (h.0, h.1.0))) leftOpen refl refl ((y h.0).1 h.1.1)))
    where
      there : claim_of a leftOpen ≡ Ok claim.NotShown → A × (I × N)
      there e = let c = open_claim a leftOpen e in let k = x.0 c.0 in (k.0, (k.1, (y k.0).0 c.1))

  pub failed_is : {B : Type 0} (why : Failure) → (a ≡ Ok (list.Failed why)) ↔ B → (claim_of a leftOpen ≡ Ok (claim.Failed why)) ↔ B
  failed_is why x = (λ e. x.0 (failed_claim a leftOpen why e), λ b. sym (claim_failed a leftOpen (list.Failed why) (sym (x.1 b)) why refl))
