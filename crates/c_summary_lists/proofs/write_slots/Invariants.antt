use lib.ListN.{get_or}
use lib.IntN.{pos}
use Rattle.ground.proofs.Fill.{Made}
use Rattle.summary_place.specs.Slots.{nil}
use Rattle.c_summary_lists.proofs.write_slots.Given as goal

abbrev pub invariant-loop-p : goal.invariant-loop-p
invariant-loop-p l =
    Made 0 (λ k. (get_or l.slots k nil).need) l.initial.need l.p l.need
    × (Made 0 (λ k. (get_or l.slots k nil).climb) l.initial.climb l.p l.climb
    × Made (pos 0) (λ k. (get_or l.slots k nil).change) l.initial.change l.p l.change)
