use Rattle.refusals.specs.Given.{counts_fault}
use Rattle.refusals.proofs.Chains.{chain_first, chain_next}
use Rattle.refusals.proofs.counts_fault.Goals as goal

pub returns-in_err-refuse : goal.returns-in_err-refuse
unfolding counts_fault
returns-in_err-refuse c = chain_first _ _ _ _ c.from_residual.ensures.1 (rw c.are_outside.ensures at c.in_err-refuse.ensures)

pub returns-in_err-refuse-2 : goal.returns-in_err-refuse-2
unfolding counts_fault
returns-in_err-refuse-2 c =
    chain_next _ _ _ _ (rw c.are_outside.ensures at c.in_ok-refuse.ensures)
    (chain_first _ _ _ _ c.from_residual-in_err-refuse-2.ensures.1 (rw c.are_misfits.ensures at c.in_err-refuse-2.ensures))

pub returns : goal.returns
unfolding counts_fault
returns c =
    chain_next _ _ _ _ (rw c.are_outside.ensures at c.in_ok-refuse.ensures)
    (chain_next _ _ _ _ (rw c.are_misfits.ensures at c.in_ok-refuse-2.ensures) c.weights_fault.ensures)
