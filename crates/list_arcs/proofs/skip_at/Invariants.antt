use Prim.Native.Nat.{◌-◌}
use lib.ListN.{get_or}
use Rattle.ground.proofs.Scan.{Below}
use Rattle.list_arcs.specs.Arc.{arc_at}
use Rattle.list_arcs.proofs.skip_at.Given as goal

abbrev pub invariant-loop-n : goal.invariant-loop-n
invariant-loop-n l = Below (λ n. arc_at (get_or l.net.pre.now (l.k - n) 0) (get_or l.net.post.now (l.k - n) 0)) l.n
