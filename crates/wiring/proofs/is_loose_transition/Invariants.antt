use Prim.Native.Nat.{◌≤◌}
use Rattle.ground.proofs.Scan.{Below}
use Rattle.net.specs.Lent.{lent}
use Rattle.wiring.specs.Wired.{arc}
use Rattle.wiring.proofs.is_loose_transition.Given as goal

abbrev pub invariant-loop-p : goal.invariant-loop-p
invariant-loop-p l = (l.p ≤ l.sized.net.places) × Below (λ p. arc (lent l.sized.net) p l.t) l.p
