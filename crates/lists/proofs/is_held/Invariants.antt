use Rattle.ground.proofs.Scan.{Below}
use Rattle.lists.specs.Whole.{marking_of}
use Rattle.lists.specs.Match.{matches}
use Rattle.lists.proofs.is_held.Given as goal

abbrev pub invariant-loop-k : goal.invariant-loop-k
invariant-loop-k l = Below (λ k. matches l.kind (marking_of l.list k) l.marking) l.k
