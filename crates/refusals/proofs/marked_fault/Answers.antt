use mathlib.Core.Path.{sym}
use Rattle.refusals.specs.Given.{marked_fault}
use Rattle.refusals.proofs.Chains.{chain_first, chain_next}
use Rattle.refusals.proofs.Refusals.{start_met}
use Rattle.refusals.proofs.marked_fault.Goals as goal

pub returns-in_err-start_fault : goal.returns-in_err-start_fault
unfolding marked_fault
returns-in_err-start_fault c = chain_first _ _ _ _ c.from_residual.ensures.1 c.in_err-start_fault.ensures

pub invariant_of-loose_fault : goal.invariant_of-loose_fault
invariant_of-loose_fault c = record { sized = (start_met _ _ _ (sym c.in_ok-start_fault.ensures)).sized }

pub returns : goal.returns
unfolding marked_fault
returns c = chain_next _ _ _ _ c.in_ok-start_fault.ensures c.loose_fault.ensures
