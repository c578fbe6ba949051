use Prim.Native.Nat.{◌≤◌}
use mathlib.Core.Path.{◌≡◌}
use lib.ListN.{length}
use Rattle.ground.specs.Lists.{tally}
use Rattle.weights.specs.Heavy.{over_at}
use Rattle.weights.proofs.has_over.Given as goal

abbrev pub invariant-loop-p : goal.invariant-loop-p
invariant-loop-p l = (l.p ≤ length l.takes) × (l.over ≡ tally (over_at l.limit l.takes l.puts) l.p)
