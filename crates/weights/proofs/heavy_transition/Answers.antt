use Rattle.ground.proofs.Scan.{scans}
use borrow.Author.Rules.{rules}
use Rattle.weights.proofs.heavy_transition.Goals as goal

pub loop-t-init : goal.loop-t-init
loop-t-init c = search (scans, rules)

pub returns-then-is_heavy : goal.returns-then-is_heavy
returns-then-is_heavy c = search (scans, rules)

pub loop-t-preserved : goal.loop-t-preserved
loop-t-preserved c = search (scans, rules)

pub returns : goal.returns
returns c = search (scans, rules)
