use Rattle.ground.proofs.Scan.{tally_start, tally_next, tally_fits}
use Rattle.file_row.proofs.Wide.{wide_place, wide_told}
use Rattle.file_row.proofs.digits_over.Goals as goal

pub loop-p-init : goal.loop-p-init
loop-p-init c = tally_start _

pub overflow_add-over : goal.overflow_add-over
overflow_add-over c = tally_fits _ _ _ _ _ c.loop-p.invariant (wide_place _ _ _ _ _ _ _ c.loop-p-test.true c.word_at-takes.ensures c.word_at-puts.ensures c.over_at-over.ensures) c.loop-p-test.true c.requires.0

pub loop-p-preserved : goal.loop-p-preserved
loop-p-preserved c = tally_next _ _ _ _ c.loop-p.invariant (wide_place _ _ _ _ _ _ _ c.loop-p-test.true c.word_at-takes.ensures c.word_at-puts.ensures c.over_at-over.ensures)

pub returns : goal.returns
returns c = wide_told _ _ _ _ _ c.loop-p.invariant c.loop-p.auto.p-end c.loop-p-test.false
