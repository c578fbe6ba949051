use mathlib.Core.Path.{sym}
use Rattle.refusals.specs.Given.{start_fault}
use Rattle.refusals.proofs.Chains.{chain_first, chain_next}
use Rattle.refusals.proofs.Refusals.{start_counted}
use Rattle.refusals.proofs.start_fault.Goals as goal

pub returns-in_err-counts_fault : goal.returns-in_err-counts_fault
unfolding start_fault
returns-in_err-counts_fault c = chain_first _ _ _ _ c.from_residual.ensures.1 (rw c.is_fitting.ensures at c.in_err-counts_fault.ensures)

pub marking_fault-requires : goal.marking_fault-requires
marking_fault-requires c = start_counted _ _ _ (sym (rw c.is_fitting.ensures at c.in_ok-counts_fault.ensures))

pub returns : goal.returns
unfolding start_fault
returns c = chain_next _ _ _ _ (rw c.is_fitting.ensures at c.in_ok-counts_fault.ensures) c.marking_fault.ensures
