use Rattle.lists.proofs.Somes.{somes}
use Rattle.closed.proofs.Deads.{none_as}
use borrow.Author.Rules.{rules}
use Rattle.closed.proofs.enables_none.Goals as goal

pub returns-then-may_fire_at : goal.returns-then-may_fire_at
returns-then-may_fire_at c = search (none_as, somes, rules)

pub returns : goal.returns
returns c = search (none_as, somes, rules)
