use Prim.Native.Nat.{◌≤◌}
use Rattle.ground.proofs.Scan.{Below}
use Rattle.net.specs.Lent.{lent}
use Rattle.weights.specs.Heavy.{heavy}
use Rattle.weights.proofs.heavy_transition.Given as goal

abbrev pub invariant-loop-t : goal.invariant-loop-t
invariant-loop-t l = (l.t ≤ l.sized.net.transitions) × Below (heavy (lent l.sized.net)) l.t
