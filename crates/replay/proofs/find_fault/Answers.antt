use Rattle.replay.specs.Entry.{replay_fault}
use Rattle.refusals.proofs.Chains.{chain_first, chain_next}
use Rattle.replay.proofs.find_fault.Goals as goal

pub returns-in_err-marked_fault : goal.returns-in_err-marked_fault
unfolding replay_fault
returns-in_err-marked_fault c = chain_first _ _ _ _ c.from_residual.ensures.1 c.in_err-marked_fault.ensures

pub returns : goal.returns
unfolding replay_fault
returns c = chain_next _ _ _ _ c.in_ok-marked_fault.ensures c.word_fault.ensures
