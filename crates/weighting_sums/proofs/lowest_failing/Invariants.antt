use Prim.Native.Nat.{◌*◌}
use Rattle.weighting_sums.specs.Walk.{line_fails}
use Rattle.net.specs.Lent.{lent}
use Rattle.ground.proofs.Scan.{Below}
use Rattle.weighting_sums.proofs.lowest_failing.Given as goal

abbrev pub invariant-loop-i : goal.invariant-loop-i
invariant-loop-i l = Below (λ i. line_fails (lent l.net) l.y (i * l.apart) l.step) l.i
