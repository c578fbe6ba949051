use Rattle.orders.proofs.Counts.{count_none, count_hit, count_miss}
use borrow.Author.Rules.{rules}
use Rattle.orders.proofs.read_of.Goals as goal
use Rattle.orders.proofs.read_of.Goals.{then-order-i, else-order-i}

pub loop-i-init : goal.loop-i-init
loop-i-init c = search (count_none, rules)

pub loop-i-preserved : goal.loop-i-preserved
loop-i-preserved c = elim c.if-order-i.branch [ then-order-i w ↦ search (count_hit, rules) | else-order-i w ↦ search (count_miss, rules) ]
