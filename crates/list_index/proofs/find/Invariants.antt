use Rattle.list_index.proofs.Finds.{Seeks}
use Rattle.list_index.proofs.find.Given as goal

abbrev pub invariant-loop-at : goal.invariant-loop-at
invariant-loop-at l = Seeks l.list.places l.list.count l.list.list.now l.marking l.at

abbrev pub decreases-loop-at : goal.decreases-loop-at
decreases-loop-at l = l.at
