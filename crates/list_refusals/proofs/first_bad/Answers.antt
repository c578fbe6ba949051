use Rattle.list_refusals.proofs.Entries.{bads}
use borrow.Author.Rules.{rules}
use Rattle.list_refusals.proofs.first_bad.Goals as goal

pub returns-in-Closed : goal.returns-in-Closed
returns-in-Closed c = search (bads, rules)

pub returns-in-Cover : goal.returns-in-Cover
returns-in-Cover c = search (bads, rules)
