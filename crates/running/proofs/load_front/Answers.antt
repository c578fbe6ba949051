use Rattle.running.proofs.Fronts.{front_set}
use borrow.Author.Rules.{rules}
use Rattle.running.proofs.load_front.Goals as goal

pub returns : goal.returns
returns c = front_set _ _ c.requires _ _ (search rules) c.load.ensures
