use Rattle.refusals.proofs.Chains.{found_refused}
use Rattle.running.specs.State.{tokens_fault}
use Rattle.running.proofs.tokens_fault.Goals as goal

pub returns : goal.returns
unfolding tokens_fault
returns c = found_refused _ _ _ _ _ c.bad_tokens.ensures c.refuse_found.ensures
