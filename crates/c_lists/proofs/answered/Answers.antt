use mathlib.Core.Path.{refl}
use Rattle.c_lists.specs.Handed.{handed_list}
use Rattle.c_lists.proofs.answered.Goals as goal

pub returns : goal.returns
unfolding handed_list
returns c = refl
