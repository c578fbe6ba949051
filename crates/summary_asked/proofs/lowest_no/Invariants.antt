use Rattle.summary_place.specs.Slots.{nil}
use lib.ListN.{get_or}
use Rattle.ground.proofs.Scan.{Below}
use Rattle.summary_asked.specs.Asked.{no_at}
use Rattle.summary_asked.proofs.lowest_no.Given as goal

abbrev pub invariant-loop-p : goal.invariant-loop-p
invariant-loop-p l = Below (λ p. no_at (get_or l.slots p nil).need (get_or l.slots p nil).climb (get_or l.caps p 0) (get_or l.marking p 0)) l.p
