use Prim.Native.Nat.{◌≤◌}
use Rattle.ground.proofs.Scan.{Below}
use Rattle.net.specs.Lent.{lent}
use Rattle.wiring.specs.Wired.{arc}
use Rattle.wiring.proofs.is_loose_place.Given as goal

abbrev pub invariant-loop-t : goal.invariant-loop-t
invariant-loop-t l = (l.t ≤ l.sized.net.transitions) × Below (arc (lent l.sized.net) l.p) l.t
