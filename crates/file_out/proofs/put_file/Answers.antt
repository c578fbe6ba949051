use native.Mathlib.Omega.{arith}
use Rattle.file_out.proofs.put_file.Goals as goal

pub put_frames-requires-clause-room : goal.put_frames-requires-clause-room
put_frames-requires-clause-room c = omega (arith, c.requires.word_in_bounds)
