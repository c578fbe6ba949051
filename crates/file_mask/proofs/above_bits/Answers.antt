use native.Mathlib.Omega.{arith}
use Rattle.file_mask.proofs.Turns.{above_shift, above_all}
use Rattle.file_mask.proofs.above_bits.Goals as goal

pub returns-then-places-lt64 : goal.returns-then-places-lt64
returns-then-places-lt64 c = above_shift c.args.mask c.args.places

pub returns-else-places-lt64 : goal.returns-else-places-lt64
returns-else-places-lt64 c = above_all c.args.mask c.args.places (omega arith) (omega arith)
