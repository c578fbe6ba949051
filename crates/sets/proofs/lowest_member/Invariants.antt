use lib.ListN.{get_or}
use lib.Dec.{ltb}
use Rattle.ground.proofs.Scan.{Below}
use Rattle.sets.proofs.lowest_member.Given as goal

abbrev pub invariant-loop-p : goal.invariant-loop-p
invariant-loop-p l = Below (λ p. ltb 0 (get_or l.set p 0)) l.p
