use native.Mathlib.Omega.{arith}
use Rattle.file_parts.proofs.Line.{len_more, len_stop, len-end}
use Rattle.file_parts.proofs.line_end.Goals as goal

pub returns-then-part-e-eq10 : goal.returns-then-part-e-eq10
returns-then-part-e-eq10 c = let z = len_stop c.args.part.now c.loop-e.e (omega arith) c.if-part-e-eq10.true in omega (arith, z, c.loop-e.invariant)

pub loop-e-preserved : goal.loop-e-preserved
loop-e-preserved c = let z = len_more c.args.part.now c.loop-e.e (omega arith) c.if-part-e-eq10.false in omega (arith, z, c.loop-e.invariant)

pub returns : goal.returns
returns c = let z = len-end c.args.part.now c.loop-e.e (omega arith) in omega (arith, z, c.loop-e.invariant)
