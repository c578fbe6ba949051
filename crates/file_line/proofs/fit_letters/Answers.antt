use Rattle.file_line.proofs.Turns.{letters_next, letters_end}
use Rattle.file_line.proofs.fit_letters.Goals as goal

pub loop-k-preserved : goal.loop-k-preserved
loop-k-preserved c = letters_next _ _ _ _ _ _ _ _ c.loop-k.invariant c.loop-k-test.true c.byte_at.ensures c.keeps-fine.ensures

pub returns : goal.returns
returns c = letters_end _ _ _ _ _ _ c.loop-k.invariant c.loop-k-test.false
