use mathlib.Core.Path.{◌≡◌}
use lib.ListN.{drop}
use Rattle.file_mask.specs.Mask.{mask_of}
use Rattle.file_mask.proofs.mask_of.Given as goal

abbrev pub invariant-loop-p : goal.invariant-loop-p
invariant-loop-p l = l.mask ≡ mask_of (drop l.p l.marks)
