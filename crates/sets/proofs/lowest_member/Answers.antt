use Rattle.ground.proofs.Scan.{scans}
use borrow.Author.Rules.{rules}
use Rattle.sets.proofs.lowest_member.Goals as goal

pub returns-then-is_member : goal.returns-then-is_member
returns-then-is_member c = search (scans, rules)

pub returns : goal.returns
returns c = search (scans, rules)
