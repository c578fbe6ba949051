use Prim.Native.Nat.{◌≤◌}
use Rattle.ground.proofs.Scan.{Below}
use Rattle.net.specs.Lent.{lent}
use Rattle.wiring.specs.Wired.{loose_place}
use Rattle.wiring.proofs.loose_place.Given as goal

abbrev pub invariant-loop-p : goal.invariant-loop-p
invariant-loop-p l = (l.p ≤ l.sized.net.places) × Below (loose_place (lent l.sized.net)) l.p
