use Rattle.order_rest.proofs.Parts.{step_inside, first_left, second_left}
use Rattle.order_rest.proofs.unread_rest.Goals as goal

pub read_before-n-requires : goal.read_before-n-requires
read_before-n-requires c = step_inside _ _ _ _ _ c.rest_fault.ensures c.in-Ok.is

pub bounds-order-step : goal.bounds-order-step
bounds-order-step c = step_inside _ _ _ _ _ c.rest_fault.ensures c.in-Ok.is

pub slice_bounds-result-count : goal.slice_bounds-result-count
slice_bounds-result-count c = first_left _ _ _ _ _ c.rest_fault.ensures c.in-Ok.is _ c.read_before-n.ensures c.if-order-step-eq0.true

pub slice_bounds-result-start : goal.slice_bounds-result-start
slice_bounds-result-start c = first_left _ _ _ _ _ c.rest_fault.ensures c.in-Ok.is _ c.read_before-n.ensures c.if-order-step-eq0.true

pub slice_bounds-result-count-else-order-step-eq0 : goal.slice_bounds-result-count-else-order-step-eq0
slice_bounds-result-count-else-order-step-eq0 c = second_left _ _ _ _ _ c.rest_fault.ensures c.in-Ok.is _ c.read_before-n.ensures c.if-order-step-eq0.false

pub slice_bounds-result-start-else-order-step-eq0 : goal.slice_bounds-result-start-else-order-step-eq0
slice_bounds-result-start-else-order-step-eq0 c = second_left _ _ _ _ _ c.rest_fault.ensures c.in-Ok.is _ c.read_before-n.ensures c.if-order-step-eq0.false
