use borrow.Author.Tests.{not-false}
use Rattle.list_refusals.proofs.Fines.{fine_end, fine_next, fine_all}
use borrow.Author.Rules.{rules}
use Rattle.list_refusals.proofs.are_fine.Goals as goal

pub loop-k-preserved : goal.loop-k-preserved
loop-k-preserved c =
    let n = c.new-markings.ensures in
    fine_next c.args.places c.args.caps.now c.args.list.now c.loop-k.k _ (fine_end c.args.places c.args.caps.now c.args.list.now c.loop-k.k (rw n.count_is at c.loop-k-test.true))
    (rw (c.marking.ensures, n.places_are, n.list_is) at c.is_fine.ensures) (search (not-false, rules)) c.loop-k.invariant

pub returns : goal.returns
returns c =
    let n = c.new-markings.ensures in
    fine_all c.args.places c.args.caps.now c.args.list.now c.loop-k.k c.loop-k.invariant (search (not-false, rules)) (rw n.count_is at c.loop-k.auto.k-end) (rw n.count_is at c.loop-k-test.false)
