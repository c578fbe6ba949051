use native.Mathlib.Omega.{arith}
use Rattle.file_parts.proofs.Buffer.{mid_sets}
use Rattle.file_parts.proofs.fill.Goals as goal

pub returns : goal.returns
returns c = rw c.copy_from_slice.ensures.after (mid_sets c.args.line.now c.args.piece.now c.args.at _ c.requires (omega arith))
