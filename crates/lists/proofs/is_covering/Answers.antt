use Rattle.lists.proofs.Somes.{somes}
use borrow.Author.Rules.{rules}
use Rattle.lists.proofs.is_covering.Goals as goal

pub returns-then-is_beyond : goal.returns-then-is_beyond
returns-then-is_beyond c = search (somes, rules)

pub returns : goal.returns
returns c = search (somes, rules)
