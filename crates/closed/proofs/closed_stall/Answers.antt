use mathlib.Core.Path.{ap}
use Rattle.net.specs.Lent.{lent}
use Rattle.lists.specs.Answers.{claim_numbers}
use Rattle.lists.specs.declared.Kind.TheVariants.{Closed}
use Rattle.lists.proofs.Answers.{claim_refused, claim_failed, claim_open, claim_shown}
use Rattle.list_check.proofs.Refusals.{answered_lent}
use Rattle.closed.proofs.closed_stall.Goals as goal

pub returns-in_err-answer : goal.returns-in_err-answer
returns-in_err-answer c = ap claim_numbers (claim_refused _ _ _ _ c.from_residual.ensures.1 c.in_err-answer.ensures)

pub returns-in-Failed : goal.returns-in-Failed
returns-in-Failed c = ap claim_numbers (claim_failed _ _ _ c.in_ok-answer.ensures _ c.in-Failed.is)

pub new-markings-requires : goal.new-markings-requires
new-markings-requires c = (answered_lent Closed (lent c.args.net.now) c.args.initial.now c.args.list.now _ _ _ c.in_ok-answer.ensures).ready.sized.some_places

pub some_dead-requires : goal.some_dead-requires
some_dead-requires c =
    let n = c.new-markings.ensures in
    let l = answered_lent Closed (lent c.args.net.now) c.args.initial.now c.args.list.now _ _ _ c.in_ok-answer.ensures in
    record { ready = rw (n.count_is, n.list_is) l.ready; same = n.places_are }

pub returns-then-some_dead : goal.returns-then-some_dead
returns-then-some_dead c =
    let n = c.new-markings.ensures in
    ap claim_numbers (claim_open _ _ _ c.in_ok-answer.ensures _ c.in-Accepted.is (rw (n.count_is, n.list_is) at c.some_dead.ensures) c.if-some_dead.true)

pub returns-else-some_dead : goal.returns-else-some_dead
returns-else-some_dead c =
    let n = c.new-markings.ensures in
    ap claim_numbers (claim_shown _ _ _ c.in_ok-answer.ensures _ c.in-Accepted.is (rw (n.count_is, n.list_is) at c.some_dead.ensures) c.if-some_dead.false)
