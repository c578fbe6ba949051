use Rattle.refusals.proofs.Chains.{chain_first, chain_next}
use Rattle.running.specs.State.{part_fault}
use Rattle.running.proofs.part_fault.Goals as goal

pub returns-in_err-state_fault : goal.returns-in_err-state_fault
unfolding part_fault
returns-in_err-state_fault c = chain_first _ _ _ _ c.from_residual.ensures.1 c.in_err-state_fault.ensures

pub returns : goal.returns
unfolding part_fault
returns c = chain_next _ _ _ _ c.in_ok-state_fault.ensures c.rest_fault.ensures
