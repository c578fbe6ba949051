use mathlib.Core.Path.{refl}
use Rattle.refusals.proofs.Chains.{chain_first, chain_next}
use Rattle.c_summary_ask.proofs.refuse_asked.Goals as goal

pub returns-in_err-refuse : goal.returns-in_err-refuse
returns-in_err-refuse c = chain_first _ _ _ _ c.from_residual.ensures.1 (rw c.is_outside.ensures at c.in_err-refuse.ensures)

pub returns-in_err-counts_fault : goal.returns-in_err-counts_fault
returns-in_err-counts_fault c =
    chain_next _ _ _ _ (rw c.is_outside.ensures at c.in_ok-refuse.ensures)
    (chain_first _ _ _ _ c.from_residual-in_err-counts_fault.ensures.1 c.in_err-counts_fault.ensures)

pub returns : goal.returns
returns c = chain_next _ _ _ _ (rw c.is_outside.ensures at c.in_ok-refuse.ensures) (chain_next _ _ _ _ c.in_ok-counts_fault.ensures refl)
