use mathlib.Core.Path.{◌≡◌}
use lib.Seq.{sets}
use Rattle.file_mask.specs.Mask.{bits_of, above_bits}
use Rattle.file_mask.proofs.store_marks.Given as goal

abbrev pub invariant-loop-p : goal.invariant-loop-p
invariant-loop-p l = (l.rest ≡ above_bits l.mask l.p) × (l.marks ≡ sets l.initial.marks 0 (bits_of l.mask l.p))
