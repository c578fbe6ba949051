use mathlib.Core.Bool.{◌&&◌}
use mathlib.Core.Path.{◌≡◌}
use Prim.Native.Nat.{◌+◌, ◌-◌}
use Rattle.file_line.specs.Walk.{fit_letters}
use Rattle.file_line.proofs.fit_letters.Given as goal

abbrev pub invariant-loop-k : goal.invariant-loop-k
invariant-loop-k l = (l.fine && fit_letters l.d (1 + l.k) (l.count - l.k) l.transitions) ≡ fit_letters l.d 1 l.count l.transitions
