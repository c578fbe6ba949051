use Rattle.lists.proofs.Somes.{somes}
use borrow.Author.Rules.{rules}
use Rattle.list_pairs.proofs.may_fire_any.Goals as goal

pub returns-then-is_lacking : goal.returns-then-is_lacking
returns-then-is_lacking c = search (somes, rules)

pub returns : goal.returns
returns c = search (somes, rules)
