use native.Mathlib.Omega.{arith}
use Rattle.file_parts.proofs.Buffer.{hold_long, hold_fine}
use Rattle.file_parts.proofs.hold.Goals as goal

pub returns-then-h-count-clause-value : goal.returns-then-h-count-clause-value
returns-then-h-count-clause-value c = hold_long c.args.h.now _ c.requires.0 _ _ (omega arith) c.ended.ensures.value

pub returns-clause-value : goal.returns-clause-value
returns-clause-value c = hold_fine c.args.h.now _ c.requires.0 _ (omega arith) c.fill.ensures c.args.s
