use mir.Syntax.{w64}
use mir.Facts.{to_z-of_z}
use Rattle.file_reads.proofs.Steps.{step_made}
use Rattle.file_reads.proofs.take_read.Goals as goal

pub returns : goal.returns
returns c = let z = to_z-of_z {w = w64} c.ranges.got in record { value = step_made c.args.h c.read_part-held.result _ _ c.args.got _ _ c.args.interrupted c.args.buf.now _ _ z z c.count-n.ensures.value c.read_part-held.ensures.value c.input_after.ensures; sound = c.read_part-held.ensures.sound }
