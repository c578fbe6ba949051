use mathlib.Core.Path.{sym}
use Rattle.list_refusals.specs.Given.{entry_fault, list_fault}
use Rattle.refusals.proofs.Chains.{chain_first, chain_next, found_refused}
use Rattle.list_refusals.proofs.list_fault.Goals as goal

pub returns-in_err-refuse_found : goal.returns-in_err-refuse_found
unfolding list_fault entry_fault
returns-in_err-refuse_found c = chain_first _ _ _ _ c.from_residual.ensures.1 (found_refused _ _ 3 _ _ c.first_bad.ensures c.in_err-refuse_found.ensures)

pub returns-in_err-next : goal.returns-in_err-next
unfolding list_fault entry_fault
returns-in_err-next c =
    chain_next _ _ _ _ (found_refused _ _ 3 _ _ c.first_bad.ensures c.in_ok-refuse_found.ensures)
    (chain_first _ _ _ _ c.from_residual-in_err-next.ensures.1 (sym c.in_err-next.was))

pub returns : goal.returns
unfolding list_fault entry_fault
returns c =
    chain_next _ _ _ _ (found_refused _ _ 3 _ _ c.first_bad.ensures c.in_ok-refuse_found.ensures)
    (chain_next _ _ _ _ (sym c.in_ok-next.was) c.size_fault.ensures)
