use Rattle.wiring.proofs.Loose.{places_scanned}
use borrow.Author.Rules.{rules}
use Rattle.wiring.proofs.is_loose_place.Goals as goal

pub loop-t-init : goal.loop-t-init
loop-t-init c = search (places_scanned, rules)

pub returns-then-is_arc : goal.returns-then-is_arc
returns-then-is_arc c = search (places_scanned, rules)

pub loop-t-preserved : goal.loop-t-preserved
loop-t-preserved c = search (places_scanned, rules)

pub returns : goal.returns
returns c = search (places_scanned, rules)
