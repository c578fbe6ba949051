use Rattle.ground.proofs.Fill.{makes}
use borrow.Author.Rules.{rules}
use mathlib.Core.Path.{ap, ◌∙◌}
use mathlib.Core.List.{List}
use lib.ListN.{length, length-replicate}
use Rattle.ground.specs.Limits.{count_limit}
use Rattle.summary_place.specs.Slots.{nil}
use Rattle.summary_place.specs.declared.Slot.{Slot}
use Rattle.c_summary_lists.proofs.Columns.{made_end}
use Rattle.c_summary_lists.proofs.Lists.read_slots.Goals as goal

pub loop-p-preserved : goal.loop-p-preserved
loop-p-preserved c = search (makes, rules)

pub returns : goal.returns
returns c =
    made_end nil _ _ _ _ c.loop-p.invariant (ap (λ (l : List Slot). length l) c.no_slots-slots.ensures ∙ length-replicate count_limit nil) c.loop-p-test.false
