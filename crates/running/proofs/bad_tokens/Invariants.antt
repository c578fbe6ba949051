use lib.ListN.{get_or}
use Rattle.ground.proofs.Scan.{Below}
use Rattle.running.specs.State.{tokens_over}
use Rattle.running.proofs.bad_tokens.Given as goal

abbrev pub invariant-loop-p : goal.invariant-loop-p
invariant-loop-p l = Below (λ p. tokens_over l.state.fired (get_or l.sized.net.caps.now p 0) (get_or l.state.marking p 0)) l.p
