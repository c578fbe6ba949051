use Rattle.c_order.proofs.Handed.{hand_order}
use Rattle.c_order.proofs.kaunorpi_order_logs.Goals as goal

pub returns : goal.returns
returns c = hand_order _ _ _ _ _ _ _ _ _ _ c.of_order.ensures c.order_logs.ensures
