use Rattle.std.proofs.Common.{arith, length}
use Rattle.std.proofs.lemmas.Grind.{common_steps}
use Rattle.orders.proofs.Counts.{count_take_le, count-le}
use Rattle.order_rest.proofs.is_fitting.Goals as goal

pub overflow_sub-order : goal.overflow_sub-order
overflow_sub-order c = omega (arith, count_take_le 0 c.args.order.now (length c.args.order.now), count-le 0 c.args.order.now)

-- so that another test is refused here, and not at a limit of the search
pub returns-then-order-zeros : goal.returns-then-order-zeros
returns-then-order-zeros c = grind (arith, common_steps, count_take_le 0 c.args.order.now (length c.args.order.now), count-le 0 c.args.order.now)
