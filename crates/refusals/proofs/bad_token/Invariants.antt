use Rattle.std.proofs.Common.{get_or}
use Rattle.refusals.specs.Given.{token_bad}
use Rattle.ground.proofs.Scan.{Below}
use Rattle.refusals.proofs.bad_token.Given as goal

abbrev pub invariant-loop-p : goal.invariant-loop-p
invariant-loop-p l = Below (λ p. token_bad (get_or l.caps p 0) (get_or l.marking p 0)) l.p
