use Prim.Native.Nat.{◌≤◌}
use Rattle.net.specs.Lent.{lent}
use Rattle.list_arcs.proofs.Moves.{Firing}
use Rattle.list_arcs.proofs.fire_arcs.Given as goal

abbrev pub invariant-loop-p : goal.invariant-loop-p
invariant-loop-p l = (l.p ≤ l.sized.net.places) × Firing (lent l.sized.net) l.t l.listed l.p l.room

abbrev pub decreases-loop-p : goal.decreases-loop-p
decreases-loop-p l = l.p
