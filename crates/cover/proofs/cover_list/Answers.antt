use mathlib.Core.Path.{ap}
use Rattle.lists.specs.Answers.{numbers}
use Rattle.cover.proofs.cover_list.Goals as goal

pub returns : goal.returns
returns c = ap numbers c.check_list.ensures
