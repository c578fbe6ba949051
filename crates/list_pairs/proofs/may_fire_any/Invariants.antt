use Prim.Native.Nat.{◌+◌, ◌*◌}
use lib.ListN.{get_or}
use Rattle.ground.proofs.Scan.{Below}
use Rattle.list_pairs.specs.Fire.{lacks}
use Rattle.list_pairs.proofs.may_fire_any.Given as goal

abbrev pub invariant-loop-p : goal.invariant-loop-p
invariant-loop-p l = Below (λ p. lacks (get_or l.pre (l.t * l.places + p) 0) (get_or l.listed p 0)) l.p
