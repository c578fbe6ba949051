use Rattle.ground.proofs.Scan.{scans}
use borrow.Author.Rules.{rules}
use Rattle.list_refusals.proofs.bad_entry.Goals as goal

pub returns-then-is_bad_token : goal.returns-then-is_bad_token
returns-then-is_bad_token c = search (scans, rules)

pub returns : goal.returns
returns c = search (scans, rules)
