use Rattle.ground.proofs.Scan.{Below}
use Rattle.net.specs.Lent.{lent}
use Rattle.complement.proofs.Changes.{changes_at}
use Rattle.complement.proofs.is_changed.Given as goal

abbrev pub invariant-loop-t : goal.invariant-loop-t
invariant-loop-t l = Below (changes_at (lent l.sized.net) l.p) l.t
