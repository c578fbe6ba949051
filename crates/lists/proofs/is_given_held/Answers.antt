use Rattle.lists.proofs.Matches.{held_as}
use borrow.Author.Rules.{rules}
use Rattle.lists.proofs.is_given_held.Goals as goal

pub returns : goal.returns
returns c = search (held_as, rules)
