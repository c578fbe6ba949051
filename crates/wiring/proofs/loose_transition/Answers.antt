use Rattle.ground.proofs.Scan.{scans}
use borrow.Author.Rules.{rules}
use Rattle.wiring.proofs.loose_transition.Goals as goal

pub loop-t-init : goal.loop-t-init
loop-t-init c = search (scans, rules)

pub returns-then-is_loose_transition : goal.returns-then-is_loose_transition
returns-then-is_loose_transition c = search (scans, rules)

pub loop-t-preserved : goal.loop-t-preserved
loop-t-preserved c = search (scans, rules)

pub returns : goal.returns
returns c = search (scans, rules)
