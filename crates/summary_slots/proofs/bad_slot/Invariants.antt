use lib.ListN.{get_or}
use Rattle.ground.proofs.Scan.{Below}
use Rattle.summary_place.specs.Slots.{nil, bad_at}
use Rattle.summary_slots.proofs.bad_slot.Given as goal

abbrev pub invariant-loop-p : goal.invariant-loop-p
invariant-loop-p l = Below (λ p. bad_at l.places l.cap p (get_or l.slots p nil)) l.p
