use native.Mathlib.Omega.{arith}
use Rattle.net.proofs.rise.Goals as goal

pub returns-then-puts-left : goal.returns-then-puts-left
returns-then-puts-left c = omega (arith, (rw c.from.ensures at c.leaves-left.ensures))

pub returns-else-puts-left : goal.returns-else-puts-left
returns-else-puts-left c = omega (arith, (rw c.from.ensures at c.leaves-left.ensures))
