use lib.ListN.{get_or}
use Rattle.ground.proofs.Fill.{Made}
use Rattle.net.proofs.load.Given as goal

abbrev pub invariant-loop-p : goal.invariant-loop-p
invariant-loop-p l = Made 0 (λ p. get_or l.given p 0) l.initial.room l.p l.room
