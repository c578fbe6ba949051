use Rattle.ground.proofs.Scan.{scans}
use borrow.Author.Rules.{rules}
use Rattle.list_refusals.proofs.lowest_any.Goals as goal

pub returns-then-is_any : goal.returns-then-is_any
returns-then-is_any c = search (scans, rules)

pub returns : goal.returns
returns c = search (scans, rules)
