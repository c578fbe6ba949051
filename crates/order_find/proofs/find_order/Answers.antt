use mathlib.Core.Path.{◌∙◌}
use Rattle.order_find.proofs.Finds.{sought_found, sought_none}
use Rattle.order_find.proofs.find_order.Goals as goal

pub returns-then-found : goal.returns-then-found
returns-then-found c = sought_found _ _ _ _ c.requires _ _ _ _ _ c.start-found.ensures _ c.clear-2.ensures (c.start-found.auto.work ∙ c.clear.auto.work) _ c.if-found.true c.copy_from_slice.ensures.after

pub returns-else-found : goal.returns-else-found
returns-else-found c = sought_none _ _ _ _ c.requires _ _ _ _ _ c.start-found.ensures _ c.clear-2.ensures (c.start-found.auto.work ∙ c.clear.auto.work) c.if-found.false
