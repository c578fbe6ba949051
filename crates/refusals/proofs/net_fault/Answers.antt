use mathlib.Core.Path.{sym}
use Rattle.refusals.specs.Given.{net_fault}
use Rattle.refusals.proofs.Chains.{chains, chain_first}
use Rattle.refusals.proofs.Refusals.{counts_met}
use borrow.Author.Rules.{rules}
use Rattle.refusals.proofs.net_fault.Goals as goal

pub returns-in_err-counts_fault : goal.returns-in_err-counts_fault
unfolding net_fault
returns-in_err-counts_fault c = chain_first _ _ _ _ c.from_residual.ensures.1 c.in_err-counts_fault.ensures

pub invariant_of-loose_fault : goal.invariant_of-loose_fault
invariant_of-loose_fault c = record { sized = (counts_met _ _ (sym c.in_ok-counts_fault.ensures)).sized }

pub returns : goal.returns
unfolding net_fault
returns c = search (chains, rules)
