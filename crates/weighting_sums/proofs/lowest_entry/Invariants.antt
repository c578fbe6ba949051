use Rattle.weighting_sums.specs.Weighting.{entry}
use Rattle.weighting_sums.specs.Tests.{picks}
use Rattle.ground.proofs.Scan.{Below}
use Rattle.weighting_sums.proofs.lowest_entry.Given as goal

abbrev pub invariant-loop-k : goal.invariant-loop-k
invariant-loop-k l = Below (λ k. picks l.negative (entry l.y k)) l.k
