use Rattle.ground.proofs.Fill.{Made}
use Rattle.summary_place.specs.Slots.{nil}
use Rattle.c_summary_lists.specs.Columns.{slot_from}
use Rattle.c_summary_lists.specs.Lists.{columns_in}
use Rattle.c_summary_lists.proofs.Lists.read_slots.Given as goal

abbrev pub invariant-loop-p : goal.invariant-loop-p
invariant-loop-p l = Made nil (slot_from (columns_in l.self)) l.initial.slots l.p l.slots
