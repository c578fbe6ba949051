use lib.ListN.{get_or}
use Rattle.ground.proofs.Scan.{Below}
use Rattle.lists.specs.Match.{beyond}
use Rattle.lists.proofs.is_covering.Given as goal

abbrev pub invariant-loop-p : goal.invariant-loop-p
invariant-loop-p l = Below (λ p. beyond (get_or l.listed p 0) (get_or l.marking p 0)) l.p
