use Prim.Native.Nat.{◌≤◌}
use Rattle.ground.proofs.Scan.{Below}
use Rattle.net.specs.Lent.{lent}
use Rattle.wiring.specs.Wired.{loose_transition}
use Rattle.wiring.proofs.loose_transition.Given as goal

abbrev pub invariant-loop-t : goal.invariant-loop-t
invariant-loop-t l = (l.t ≤ l.sized.net.transitions) × Below (loose_transition (lent l.sized.net)) l.t
