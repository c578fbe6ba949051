use Rattle.lists.proofs.Somes.{somes}
use borrow.Author.Rules.{rules}
use Rattle.lists.proofs.is_held.Goals as goal

pub returns-then-is_match : goal.returns-then-is_match
returns-then-is_match c = let e = rw c.marking.ensures at c.is_match.ensures in search (somes, rules)

pub returns : goal.returns
returns c = search (somes, rules)
