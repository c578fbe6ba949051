-- What C is handed: nothing of an answer is lost on the way (one answer: `unique`, c_answer/proofs/Hand.antt). Assumes nothing.
use mathlib.Core.Path.{◌≡◌, refl}
use Rattle.std.specs.Prelude.{Ok, Err}
use Rattle.refusals.specs.Given.{Answer, refused}
use mathlib.Core.Bool.{cond}
use lib.Dec.{eqb}
use Rattle.lists.specs.Answers.{numbers, claim_numbers}
use Rattle.lists.specs.declared.Failure.TheVariants.{InitialMissing, ResultMissing}
use Rattle.lists.specs.declared.ListAnswer.{ListAnswer}
use Rattle.lists.specs.declared.ListAnswer.TheVariants as list
use Rattle.lists.specs.declared.ClaimAnswer.{ClaimAnswer}
use Rattle.lists.specs.declared.ClaimAnswer.TheVariants as claim
use Rattle.c_lists.specs.Handed.{handed_list}
use Rattle.c_lists.specs.declared.ListNumbers.{ListNumbers}

abbrev pub list_of : ListNumbers → Answer ListAnswer
list_of r =
    cond (eqb r.kind 0x82) (refused r.number r.position)
    (cond (eqb r.number 0) (Ok list.Accepted)
    (cond (eqb r.number 1) (Ok (list.Failed InitialMissing)) (Ok (list.Failed (ResultMissing r.position r.transition)))))

pub list_whole : (a : Answer ListAnswer) → list_of (handed_list (numbers a)) ≡ a
unfolding handed_list
list_whole (Ok list.Accepted) = refl
list_whole (Ok (list.Failed InitialMissing)) = refl
list_whole (Ok (list.Failed (ResultMissing k t))) = refl
list_whole (Err r) = refl

abbrev pub claim_of : ListNumbers → Answer ClaimAnswer
claim_of r =
    cond (eqb r.kind 0x82) (refused r.number r.position)
    (cond (eqb r.number 0) (Ok claim.Shown)
    (cond (eqb r.number 3) (Ok claim.NotShown)
    (cond (eqb r.number 1) (Ok (claim.Failed InitialMissing)) (Ok (claim.Failed (ResultMissing r.position r.transition))))))

pub claim_whole : (a : Answer ClaimAnswer) → claim_of (handed_list (claim_numbers a)) ≡ a
unfolding handed_list
claim_whole (Ok claim.Shown) = refl
claim_whole (Ok claim.NotShown) = refl
claim_whole (Ok (claim.Failed InitialMissing)) = refl
claim_whole (Ok (claim.Failed (ResultMissing k t))) = refl
claim_whole (Err r) = refl
