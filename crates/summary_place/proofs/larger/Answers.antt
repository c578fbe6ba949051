use Rattle.std.proofs.Common.{rules}
use Rattle.summary_place.specs.Walk.{step}
use Rattle.summary_place.proofs.larger.Goals as goal

pub returns : goal.returns
unfolding step
returns c = search rules
