use Rattle.ground.proofs.Scan.{scans}
use borrow.Author.Rules.{rules}
use Rattle.summary_asked.proofs.lowest_no.Goals as goal

pub returns-then-is_no : goal.returns-then-is_no
returns-then-is_no c = search (scans, rules)

pub returns : goal.returns
returns c = search (scans, rules)
