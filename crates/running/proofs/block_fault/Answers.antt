use Rattle.running.specs.State.{block_fault}
use Rattle.running.proofs.block_fault.Goals as goal

pub returns : goal.returns
unfolding block_fault
returns c = rw c.is_misplaced.ensures at c.refuse.ensures
