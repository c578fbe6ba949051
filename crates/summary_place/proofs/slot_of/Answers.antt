use Rattle.summary_place.proofs.Running.{runs, run_letter}
use Rattle.net.specs.Lent.{lent}
use borrow.Author.Rules.{rules}
use Rattle.summary_place.proofs.slot_of.Goals as goal

pub loop-i-init : goal.loop-i-init
loop-i-init c = search (runs, rules)

pub pre_at-takes-requires : goal.pre_at-takes-requires
pre_at-takes-requires c = (c.requires.p_lt_places, rw c.from-t.ensures (c.requires.letters.at c.loop-i.i c.loop-i-test.true))

pub post_at-puts-requires : goal.post_at-puts-requires
post_at-puts-requires c = (c.requires.p_lt_places, rw c.from-t.ensures (c.requires.letters.at c.loop-i.i c.loop-i-test.true))

pub loop-i-preserved : goal.loop-i-preserved
loop-i-preserved c =
    rw (c.from-gained.ensures, c.from-lost.ensures)
    (run_letter (lent c.args.sized.now.net) c.requires.light c.args.p c.args.word.now _ _ _ _ _ c.loop-i.invariant _ _ _ _ _ _ _ c.loop-i-test.true c.from-t.ensures
    c.mark_in_force-mark.ensures c.pre_at-takes.ensures c.post_at-puts.ensures c.rise-rises.ensures
    (rw c.from.ensures at c.larger-need.ensures) (rw c.from-in-loop-i.ensures at c.larger-climb.ensures))

pub returns : goal.returns
returns c = search (runs, rules)
