use Rattle.refusals.specs.Given.{marking_fault}
use Rattle.refusals.proofs.Chains.{found_refused}
use Rattle.refusals.proofs.marking_fault.Goals as goal

pub returns : goal.returns
unfolding marking_fault
returns c = found_refused _ _ 3 _ _ c.bad_token.ensures c.refuse_found.ensures
