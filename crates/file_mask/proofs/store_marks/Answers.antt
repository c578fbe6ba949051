use Rattle.file_mask.proofs.Turns.{marks_none, marks_next}
use Rattle.file_mask.proofs.store_marks.Goals as goal

pub loop-p-init : goal.loop-p-init
loop-p-init c = marks_none c.args.marks.now c.args.mask

pub loop-p-preserved : goal.loop-p-preserved
loop-p-preserved c = marks_next _ _ _ _ _ c.loop-p.invariant.0 c.loop-p.invariant.1
