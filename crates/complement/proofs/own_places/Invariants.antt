use lib.ListN.{replicate}
use Rattle.ground.specs.Limits.{count_limit}
use Rattle.ground.proofs.Fill.{Made}
use Rattle.complement.proofs.own_places.Given as goal

abbrev pub invariant-loop-p : goal.invariant-loop-p
invariant-loop-p l = Made 0 (λ k. k) (replicate count_limit 0) l.p l.own
