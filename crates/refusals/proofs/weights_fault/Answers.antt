use Rattle.refusals.specs.Given.{weights_fault}
use Rattle.refusals.proofs.Chains.{found_refused}
use Rattle.refusals.proofs.weights_fault.Goals as goal

pub returns : goal.returns
unfolding weights_fault
returns c = found_refused _ _ 18 _ _ c.heavy_transition.ensures c.refuse_found.ensures
