use Rattle.summary_place.specs.Slots.{slot_bad}
use borrow.Author.Rules.{rules}
use Rattle.summary_slots.proofs.is_bad.Goals as goal

pub returns-then-s-down : goal.returns-then-s-down
unfolding slot_bad
returns-then-s-down c = search rules

pub returns-else-s-down : goal.returns-else-s-down
unfolding slot_bad
returns-else-s-down c = search rules
