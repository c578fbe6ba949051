use lib.ListN.{get_or}
use Rattle.ground.proofs.Scan.{Below}
use Rattle.sets.specs.Answer.{meets}
use Rattle.sets.proofs.is_touching.Given as goal

abbrev pub invariant-loop-p : goal.invariant-loop-p
invariant-loop-p l = Below (λ p. meets (get_or l.row p 0) (get_or l.set p 0)) l.p
