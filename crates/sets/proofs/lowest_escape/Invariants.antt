use Rattle.ground.proofs.Scan.{Below}
use Rattle.net.specs.Lent.{lent}
use Rattle.sets.specs.Answer.{escapes}
use Rattle.sets.proofs.lowest_escape.Given as goal

abbrev pub invariant-loop-t : goal.invariant-loop-t
invariant-loop-t l = Below (escapes (lent l.sized.net) l.set) l.t
