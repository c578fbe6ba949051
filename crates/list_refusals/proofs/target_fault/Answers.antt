use Rattle.list_refusals.specs.Given.{target_fault}
use Rattle.refusals.proofs.Chains.{found_refused}
use Rattle.list_refusals.proofs.target_fault.Goals as goal

pub returns : goal.returns
unfolding target_fault
returns c = found_refused _ _ 3 _ _ c.lowest_any.ensures c.refuse_found.ensures
