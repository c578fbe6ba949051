use Rattle.ground.proofs.Scan.{scans}
use borrow.Author.Rules.{rules}
use Rattle.running.proofs.bad_tokens.Goals as goal

pub returns-then-is_over : goal.returns-then-is_over
returns-then-is_over c = search (scans, rules)

pub returns : goal.returns
returns c = search (scans, rules)
