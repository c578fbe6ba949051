use Rattle.net.specs.Lent.{arcs_in}
use Prim.Native.Nat.{◌≤◌}
use lib.ListN.{length}
use Rattle.net.specs.Letter.{over}
use Rattle.ground.proofs.Scan.{Below}
use Rattle.net.proofs.lowest_over.Given as goal

abbrev pub invariant-loop-p : goal.invariant-loop-p
invariant-loop-p l = (l.p ≤ length l.marking) × Below (over (arcs_in l.arcs) l.marking) l.p
