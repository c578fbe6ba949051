use Rattle.summary_place.specs.Slots.{nil, joined}
use lib.ListN.{get_or}
use Rattle.ground.proofs.Fill.{Filled}
use Rattle.summary_slots.proofs.join_slots.Given as goal

abbrev pub invariant-loop-p : goal.invariant-loop-p
invariant-loop-p l = Filled nil (λ k x. joined x (get_or l.b k nil)) l.initial.both l.p l.both
