use Rattle.c_lists.specs.Handed.{handed_list}
use Rattle.c_lists.proofs.of_failure.Goals as goal

pub returns-in-ResultMissing : goal.returns-in-ResultMissing
unfolding handed_list
returns-in-ResultMissing c = rw c.in-ResultMissing.is
