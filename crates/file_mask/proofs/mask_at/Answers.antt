use mathlib.Core.Path.{refl}
use Rattle.file_mask.proofs.Turns.{read_number}
use Rattle.file_mask.proofs.mask_at.Goals as goal

pub returns : goal.returns
returns c = read_number c.args.d.now _ _ refl (rw c.store_bytes.ensures at c.from_be_bytes.ensures)
