use Prim.Native.Nat.{◌≤◌}
use lib.ListN.{length}
use Rattle.net.specs.Letter.{short}
use Rattle.ground.proofs.Scan.{Below}
use Rattle.net.proofs.lowest_short.Given as goal

abbrev pub invariant-loop-p : goal.invariant-loop-p
invariant-loop-p l = (l.p ≤ length l.marking) × Below (short l.takes l.marking) l.p
