-- Rooms with nothing in them are large. Assumes nothing.
use mathlib.Core.Path.{◌≡◌}
use Prim.Native.Nat.{ℕ}
use native.Mathlib.Omega.{arith}
use lib.ListN.{length-replicate}
use Rattle.ground.specs.Limits.{count_limit, word_limit}
use Rattle.file_line.specs.declared.Rooms.{Rooms}
use Rattle.file_line.specs.Read.{cell_limit, blank}
use Rattle.file_line.specs.Walk.{Large}

-- rooms of our own, with nothing in them
pub blank_large : (x : Rooms) → x ≡ blank → Large x
blank_large x e =
    let a = length-replicate {A = ℕ} count_limit 0 in
    let b = length-replicate {A = ℕ} cell_limit 0 in
    let c = length-replicate {A = ℕ} word_limit 0 in
    rw e (record { caps = omega (arith, a); marks = omega (arith, a); initial = omega (arith, a); pre = omega (arith, b); post = omega (arith, b); word = omega (arith, c) })
