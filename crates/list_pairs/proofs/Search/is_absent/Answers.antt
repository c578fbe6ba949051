use Rattle.list_pairs.proofs.Fires.{absents}
use borrow.Author.Rules.{rules}
use Rattle.list_pairs.proofs.Search.is_absent.Goals as goal

pub returns-in-Closed : goal.returns-in-Closed
returns-in-Closed c = search (absents, rules)

pub returns-in-Cover : goal.returns-in-Cover
returns-in-Cover c = search (absents, rules)
