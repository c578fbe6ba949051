use Rattle.refusals.proofs.Chains.{chain_first, chain_next}
use Rattle.order_rest.proofs.Exactly.{told_of}
use Rattle.order_rest.proofs.rest_fault.Goals as goal

pub returns-in_err-long_fault : goal.returns-in_err-long_fault
returns-in_err-long_fault c = told_of _ _ _ _ _ (chain_first _ _ _ _ c.from_residual.ensures.1 c.in_err-long_fault.ensures)

pub returns : goal.returns
returns c = told_of _ _ _ _ _ (chain_next _ _ _ _ c.in_ok-long_fault.ensures (rw c.is_fitting.ensures at c.refuse.ensures))
