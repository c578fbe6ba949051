use Rattle.ground.proofs.Scan.{Below}
use Rattle.net.specs.Lent.{lent}
use Rattle.net.specs.Letter.{arcs_at, passes}
use Rattle.closed.proofs.enables_none.Given as goal

abbrev pub invariant-loop-t : goal.invariant-loop-t
invariant-loop-t l = Below (λ t. passes (arcs_at (lent l.net) t) l.room) l.t
