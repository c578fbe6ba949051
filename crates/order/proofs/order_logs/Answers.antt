use Rattle.net.specs.Lent.{lent}
use Rattle.order.proofs.Answers.{found_begins, ordered_found, ordered_none}
use Rattle.order.proofs.order_logs.Goals as goal

pub find_order-requires : goal.find_order-requires
find_order-requires c =
    let a = c.args in
    found_begins (lent a.net.now) a.initial.now a.logs.now.first.now a.logs.now.second.now a.room.now a.work.now _ c.is_fitting-fits.ensures c.in_ok-find_fault.ensures

pub returns-then-find_order : goal.returns-then-find_order
returns-then-find_order c =
    let a = c.args in
    ordered_found (lent a.net.now) a.initial.now a.logs.now.first.now a.logs.now.second.now a.room.now a.work.now _ c.is_fitting-fits.ensures c.in_ok-find_fault.ensures _ _ _ c.find_order.ensures c.if-find_order.true

pub returns-else-find_order : goal.returns-else-find_order
returns-else-find_order c =
    let a = c.args in
    ordered_none (lent a.net.now) a.initial.now a.logs.now.first.now a.logs.now.second.now a.room.now a.work.now _ c.is_fitting-fits.ensures c.in_ok-find_fault.ensures _ _ _ c.find_order.ensures c.if-find_order.false
