use Rattle.std.proofs.Common.{leb, get_or}
use Rattle.ground.proofs.Scan.{Below}
use Rattle.refusals.proofs.bad_letter.Given as goal

abbrev pub invariant-loop-k : goal.invariant-loop-k
invariant-loop-k l = Below (λ k. leb l.transitions (get_or l.word k 0)) l.k
