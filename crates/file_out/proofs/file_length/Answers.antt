use native.Mathlib.Omega.{arith}
use Rattle.file_out.proofs.Length.{mask_most}
use Rattle.file_out.proofs.file_length.Goals as goal

pub overflow_add-result-2 : goal.overflow_add-result-2
overflow_add-result-2 c = omega (arith, mask_most c.args.mask)

pub overflow_add-result-3 : goal.overflow_add-result-3
overflow_add-result-3 c = omega (arith, mask_most c.args.mask)

pub overflow_add-result-4 : goal.overflow_add-result-4
overflow_add-result-4 c = omega (arith, mask_most c.args.mask)
