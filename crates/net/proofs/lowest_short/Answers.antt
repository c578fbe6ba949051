use Rattle.ground.proofs.Scan.{scans}
use borrow.Author.Rules.{rules}
use Rattle.net.proofs.lowest_short.Goals as goal

pub loop-p-init : goal.loop-p-init
loop-p-init c = search (scans, rules)

pub returns-then-is_short : goal.returns-then-is_short
returns-then-is_short c = search (scans, rules)

pub loop-p-preserved : goal.loop-p-preserved
loop-p-preserved c = search (scans, rules)

pub returns : goal.returns
returns c = search (scans, rules)
