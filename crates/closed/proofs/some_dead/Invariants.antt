use Rattle.net.specs.Lent.{lent}
use Rattle.ground.proofs.Scan.{Below}
use Rattle.closed.specs.Dead.{dead}
use Rattle.closed.proofs.some_dead.Given as goal

abbrev pub invariant-loop-k : goal.invariant-loop-k
invariant-loop-k l = Below (dead (lent l.net) l.list.list.now) l.k
