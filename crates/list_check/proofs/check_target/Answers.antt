use borrow.Author.Tests.{eqb-true}
use Rattle.net.specs.Lent.{lent}
use Rattle.lists.proofs.Answers.{claim_refused, claim_failed, claim_open, claim_shown}
use Rattle.list_check.proofs.Refusals.{answered_lent}
use Rattle.list_check.proofs.check_target.Goals as goal

pub returns-in_err-answer : goal.returns-in_err-answer
returns-in_err-answer c = claim_refused _ _ _ _ c.from_residual.ensures.1 (rw c.target_fault-next.ensures at c.in_err-answer.ensures)

pub returns-in-Failed : goal.returns-in-Failed
returns-in-Failed c = claim_failed _ _ _ (rw c.target_fault-next.ensures at c.in_ok-answer.ensures) _ c.in-Failed.is

pub new-markings-requires : goal.new-markings-requires
new-markings-requires c = (answered_lent c.args.kind (lent c.args.net.now) c.args.initial.now c.args.list.now _ _ _ c.in_ok-answer.ensures).ready.sized.some_places

pub holds-requires : goal.holds-requires
holds-requires c =
    let n = c.new-markings.ensures in
    let l = answered_lent c.args.kind (lent c.args.net.now) c.args.initial.now c.args.list.now _ _ _ c.in_ok-answer.ensures in
    rw (n.places_are, n.count_is, n.list_is)
    (record { places_le_count_limit = l.ready.sized.few_places; whole = l.ready.long; given_len = eqb-true _ _ l.agrees })

pub returns-then-holds : goal.returns-then-holds
returns-then-holds c =
    let n = c.new-markings.ensures in
    claim_open _ _ _ (rw c.target_fault-next.ensures at c.in_ok-answer.ensures) _ c.in-Accepted.is (rw (n.places_are, n.count_is, n.list_is) at c.holds.ensures) c.if-holds.true

pub returns-else-holds : goal.returns-else-holds
returns-else-holds c =
    let n = c.new-markings.ensures in
    claim_shown _ _ _ (rw c.target_fault-next.ensures at c.in_ok-answer.ensures) _ c.in-Accepted.is (rw (n.places_are, n.count_is, n.list_is) at c.holds.ensures) c.if-holds.false
