use Rattle.weighting_sums.proofs.Shares.{Weighed}
use Rattle.weighting_sums.proofs.weigh.Given as goal

abbrev pub invariant-loop-p : goal.invariant-loop-p
invariant-loop-p l = Weighed l.y l.marking l.p l.sum
