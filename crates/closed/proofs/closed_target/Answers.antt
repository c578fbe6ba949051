use mathlib.Core.Path.{ap}
use Rattle.lists.specs.Answers.{claim_numbers}
use Rattle.closed.proofs.closed_target.Goals as goal

pub returns : goal.returns
returns c = ap claim_numbers c.check_target.ensures
