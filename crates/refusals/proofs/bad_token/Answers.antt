use Rattle.ground.proofs.Scan.{scans}
use borrow.Author.Rules.{rules}
use Rattle.refusals.proofs.bad_token.Goals as goal

pub loop-p-init : goal.loop-p-init
loop-p-init c = search (scans, rules)

pub returns-then-is_bad_token : goal.returns-then-is_bad_token
returns-then-is_bad_token c = search (scans, rules)

pub loop-p-preserved : goal.loop-p-preserved
loop-p-preserved c = search (scans, rules)

pub returns : goal.returns
returns c = search (scans, rules)
