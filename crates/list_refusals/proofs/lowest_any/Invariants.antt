use lib.ListN.{get_or}
use lib.Dec.{ltb}
use Rattle.ground.specs.Limits.{token_limit}
use Rattle.ground.proofs.Scan.{Below}
use Rattle.list_refusals.proofs.lowest_any.Given as goal

abbrev pub invariant-loop-p : goal.invariant-loop-p
invariant-loop-p l = Below (λ p. ltb token_limit (get_or l.target p 0)) l.p
