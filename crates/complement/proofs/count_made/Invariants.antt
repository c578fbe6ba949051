use Rattle.net.specs.Lent.{lent}
use Rattle.complement.specs.Complement.{made}
use Rattle.complement.proofs.Written.{Counted}
use Rattle.complement.proofs.count_made.Given as goal

abbrev pub invariant-loop-p : goal.invariant-loop-p
invariant-loop-p l = Counted (made (lent l.sized.net)) l.sized.net.places l.count l.p
