use Prim.Native.Nat.{◌*◌}
use Rattle.ground.proofs.Scan.{Below}
use Rattle.list_refusals.proofs.Fines.{bad}
use Rattle.list_refusals.proofs.are_fine.Given as goal

abbrev pub invariant-loop-k : goal.invariant-loop-k
invariant-loop-k l = Below (bad l.places l.caps l.list) (l.k * l.places)
