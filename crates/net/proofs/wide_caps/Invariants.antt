use Prim.Native.Nat.{◌≤◌}
use lib.ListN.{length, get_or}
use Rattle.ground.proofs.Fill.{Made}
use Rattle.net.proofs.wide_caps.Given as goal

abbrev pub invariant-loop-p : goal.invariant-loop-p
invariant-loop-p l = (l.p ≤ length l.caps) × Made 0 (λ k. get_or l.caps k 0) l.initial.room l.p l.room
