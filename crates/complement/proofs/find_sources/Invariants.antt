use Rattle.ground.specs.Limits.{count_limit}
use Rattle.ground.specs.Lists.{table}
use Rattle.net.specs.Lent.{lent}
use Rattle.complement.specs.Complement.{made}
use Rattle.complement.proofs.Written.{Choosing}
use Rattle.complement.proofs.find_sources.Given as goal

abbrev pub invariant-loop-p : goal.invariant-loop-p
invariant-loop-p l = Choosing (made (lent l.sized.net)) l.sized.net.places (table (λ k. k) count_limit) l.sized.net.places l.at l.p l.sources
