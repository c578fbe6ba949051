use native.Mathlib.Omega.{arith}
use Rattle.file_out.proofs.Pockets.{pockets_none, pockets_room, pockets_written}
use Rattle.file_out.proofs.put_pockets.Goals as goal

pub put_mask-requires : goal.put_mask-requires
put_mask-requires c = pockets_room c.args.marks.now c.mask_of-mask.result c.mask_of-mask.ensures _ _ (λ z. omega arith) c.requires.1

pub returns-then-mask-ne0 : goal.returns-then-mask-ne0
returns-then-mask-ne0 c = pockets_written c.args.marks.now c.mask_of-mask.result c.mask_of-mask.ensures (λ z. omega arith) c.put_mask.ensures

pub returns-else-mask-ne0 : goal.returns-else-mask-ne0
returns-else-mask-ne0 c = pockets_none c.args.marks.now c.mask_of-mask.result c.mask_of-mask.ensures _ (omega arith)
