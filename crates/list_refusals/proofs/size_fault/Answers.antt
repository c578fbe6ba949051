use Rattle.list_refusals.specs.Given.{size_fault}
use Rattle.list_refusals.proofs.size_fault.Goals as goal

pub returns : goal.returns
unfolding size_fault
returns c = rw c.is_outside.ensures at c.refuse.ensures
