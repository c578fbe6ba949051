use Rattle.refusals.proofs.Chains.{chain_first, chain_next}
use Rattle.summary.specs.Entry.{part_fault}
use Rattle.summary.proofs.find_fault.Goals as goal

pub returns-in_err-net_fault : goal.returns-in_err-net_fault
unfolding part_fault
returns-in_err-net_fault c = chain_first _ _ _ _ c.from_residual.ensures.1 c.in_err-net_fault.ensures

pub returns : goal.returns
unfolding part_fault
returns c = chain_next _ _ _ _ c.in_ok-net_fault.ensures c.word_fault.ensures
