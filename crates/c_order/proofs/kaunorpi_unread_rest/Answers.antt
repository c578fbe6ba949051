use native.Mathlib.Omega.{arith}
use Rattle.order_rest.proofs.Parts.{step_inside, first_left, second_left}
use Rattle.c_order.proofs.Handed.{hand_refused, hand_second}
use Rattle.c_order.proofs.kaunorpi_unread_rest.Goals as goal

pub bounds-order-step : goal.bounds-order-step
bounds-order-step c = step_inside _ _ _ _ _ c.rest_fault.ensures c.in-Ok.is

pub read_of-n-requires : goal.read_of-n-requires
read_of-n-requires c = let h = step_inside _ _ _ _ _ c.rest_fault.ensures c.in-Ok.is in omega (arith, h)

pub rest_from-requires : goal.rest_from-requires
rest_from-requires c = first_left _ _ _ _ _ c.rest_fault.ensures c.in-Ok.is _ c.read_of-n.ensures c.if-which-eq0.true

pub rest_from-requires-else-which-eq0 : goal.rest_from-requires-else-which-eq0
rest_from-requires-else-which-eq0 c = second_left _ _ _ _ _ c.rest_fault.ensures c.in-Ok.is _ c.read_of-n.ensures c.if-which-eq0.false

pub returns-in-Err : goal.returns-in-Err
returns-in-Err c = hand_refused _ _ _ _ _ c.rest_fault.ensures _ c.in-Err.is

pub returns-else-which-eq0 : goal.returns-else-which-eq0
returns-else-which-eq0 c = hand_second _ _ _ _ _ c.rest_fault.ensures c.in-Ok.is _ _ c.read_of-n.ensures c.if-which-eq0.false c.rest_from-else-which-eq0.ensures
