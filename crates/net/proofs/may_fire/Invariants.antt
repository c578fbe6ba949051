use Rattle.net.specs.Lent.{arcs_in}
use Prim.Native.Nat.{◌≤◌}
use mathlib.Core.Path.{◌≡◌}
use lib.ListN.{length}
use Rattle.ground.specs.Lists.{tally}
use Rattle.net.specs.Letter.{stops}
use Rattle.net.proofs.may_fire.Given as goal

abbrev pub invariant-loop-p : goal.invariant-loop-p
invariant-loop-p l = (l.p ≤ length l.marking) × (l.stopped ≡ tally (stops (arcs_in l.arcs) l.marking) l.p)
