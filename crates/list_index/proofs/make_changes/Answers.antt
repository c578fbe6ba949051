use native.Mathlib.Omega.{arith}
use Rattle.ground.proofs.Fill.{make_next}
use Rattle.list_index.proofs.make_changes.Goals as goal

pub loop-t-preserved : goal.loop-t-preserved
loop-t-preserved c =
    make_next 0 _ _ _ _ _ c.loop-t.invariant (omega (arith, c.loop-t.invariant.filled.long, c.loop-t-test.true, c.requires.transitions_in_bounds))
    (rw (c.takes.ensures, c.puts.ensures) at c.change_of.ensures)
