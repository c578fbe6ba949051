use native.Mathlib.Omega.{arith}
use mathlib.Core.Path.{refl, ◌∙◌}
use Rattle.file_mask.proofs.Turns.{mask_none_left, mask_turn, mask_room}
use Rattle.file_mask.proofs.mask_of.Goals as goal

pub loop-p-init : goal.loop-p-init
loop-p-init c = mask_none_left c.args.marks.now

pub with_bit-mask-requires : goal.with_bit-mask-requires
with_bit-mask-requires c = mask_room c.args.marks.now _ _ (mask_turn c.args.marks.now c.loop-p.p c.loop-p.mask _ _ (omega arith) (omega arith) refl c.bit_of.ensures c.loop-p.invariant) c.requires

pub loop-p-preserved : goal.loop-p-preserved
loop-p-preserved c = c.with_bit-mask.ensures ∙ mask_turn c.args.marks.now c.loop-p.p c.loop-p.mask _ _ (omega arith) (omega arith) refl c.bit_of.ensures c.loop-p.invariant
