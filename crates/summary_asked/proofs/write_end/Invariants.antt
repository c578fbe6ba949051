use Rattle.summary_asked.specs.Asked.{end_at}
use Rattle.ground.proofs.Fill.{Made}
use lib.ListN.{get_or}
use Rattle.summary_place.specs.Slots.{nil}
use Rattle.summary_asked.proofs.write_end.Given as goal

abbrev pub invariant-loop-p : goal.invariant-loop-p
invariant-loop-p l = Made 0 (λ p. end_at (get_or l.slots p nil) (get_or l.marking p 0)) l.initial.room l.p l.room
