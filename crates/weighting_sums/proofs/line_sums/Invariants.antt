use Rattle.net.specs.Lent.{lent}
use Rattle.weighting_sums.proofs.Shares.{Summed}
use Rattle.weighting_sums.proofs.line_sums.Given as goal

abbrev pub invariant-loop-k : goal.invariant-loop-k
invariant-loop-k l = Summed (lent l.net) l.y l.start l.step l.k l.gained l.lost
