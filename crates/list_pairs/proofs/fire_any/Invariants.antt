use Prim.Native.Nat.{◌+◌, ◌*◌}
use lib.ListN.{get_or}
use Rattle.ground.proofs.Fill.{Made}
use Rattle.list_pairs.specs.Fire.{after_any}
use Rattle.list_pairs.proofs.fire_any.Given as goal

abbrev pub invariant-loop-p : goal.invariant-loop-p
invariant-loop-p l = Made 0 (λ p. after_any (get_or l.pre (l.t * l.places + p) 0) (get_or l.post (l.t * l.places + p) 0) (get_or l.listed p 0)) l.initial.room l.p l.room
