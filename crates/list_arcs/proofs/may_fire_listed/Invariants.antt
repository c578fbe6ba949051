use Prim.Native.Nat.{◌≤◌}
use lib.ListN.{length}
use Rattle.net.specs.Lent.{lent}
use Rattle.net.specs.Letter.{arcs_at, stops}
use Rattle.list_arcs.proofs.Judges.{Above}
use Rattle.list_arcs.proofs.may_fire_listed.Given as goal

abbrev pub invariant-loop-p : goal.invariant-loop-p
invariant-loop-p l = (l.p ≤ l.sized.net.places) × Above (stops (arcs_at (lent l.sized.net) l.t) l.listed) l.p (length l.listed)

abbrev pub decreases-loop-p : goal.decreases-loop-p
decreases-loop-p l = l.p
