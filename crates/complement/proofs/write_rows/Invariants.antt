use lib.ListN.{length}
use Rattle.net.specs.Lent.{lent}
use Rattle.complement.specs.Walk.{new_pre, new_post}
use Rattle.complement.proofs.Written.{Rowing}
use Rattle.complement.proofs.write_rows.Given as goal

abbrev pub invariant-loop-t : goal.invariant-loop-t
invariant-loop-t l = Rowing (new_pre (lent l.sized.net) l.sources) (length l.sources) l.initial.pre2 l.t l.pre2 × Rowing (new_post (lent l.sized.net) l.sources) (length l.sources) l.initial.post2 l.t l.post2
