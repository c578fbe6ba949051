use Rattle.lists.proofs.Matches.{match_kinds}
use borrow.Author.Rules.{rules}
use Rattle.lists.proofs.is_match.Goals as goal

pub returns-in-Closed : goal.returns-in-Closed
returns-in-Closed c = search (match_kinds, rules)

pub returns-in-Cover : goal.returns-in-Cover
returns-in-Cover c = search (match_kinds, rules)
