use Rattle.file_entry.proofs.Fronts.{front_sets}
use Rattle.file_entry.proofs.lay.Goals as goal

pub returns : goal.returns
returns g c = rw c.copy_from_slice.ensures.after (front_sets _ _ c.requires)
