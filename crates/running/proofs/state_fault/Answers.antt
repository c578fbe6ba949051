use mathlib.Core.Path.{sym}
use Rattle.net.specs.Lent.{lent}
use Rattle.refusals.proofs.Chains.{chain_first, chain_next}
use Rattle.refusals.proofs.Refusals.{counts_met}
use Rattle.running.specs.State.{state_fault}
use Rattle.running.proofs.state_fault.Goals as goal

pub returns-in_err-counts_fault : goal.returns-in_err-counts_fault
unfolding state_fault
returns-in_err-counts_fault c = chain_first _ _ _ _ c.from_residual.ensures.1 c.in_err-counts_fault.ensures

pub invariant_of-held_fault : goal.invariant_of-held_fault
invariant_of-held_fault c = record { sized = (counts_met (lent c.args.net.now) _ (sym c.in_ok-counts_fault.ensures)).sized }

pub returns : goal.returns
unfolding state_fault
returns c = chain_next _ _ _ _ c.in_ok-counts_fault.ensures c.held_fault.ensures
