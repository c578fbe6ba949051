use Rattle.ground.proofs.Scan.{scans}
use borrow.Author.Rules.{rules}
use Rattle.refusals.proofs.bad_letter.Goals as goal

pub loop-k-init : goal.loop-k-init
loop-k-init c = search (scans, rules)

pub returns-then-is_bad_letter : goal.returns-then-is_bad_letter
returns-then-is_bad_letter c = search (scans, rules)

pub loop-k-preserved : goal.loop-k-preserved
loop-k-preserved c = search (scans, rules)

pub returns : goal.returns
returns c = search (scans, rules)
