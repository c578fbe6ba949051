-- Laws of the front of a lent room: a part of it is lent on, and what stands behind it stays. Assumes nothing.
use Prim.Native.Nat.{ℕ, ◌+◌, ◌≤◌}
use mathlib.Core.Path.{◌≡◌, sym, ◌∙◌}
use mathlib.Core.List.{List, ◌++◌}
use native.Mathlib.Omega.{arith}
use lib.ListN.{length, take, drop}
use lib.Seq.{length-take-le, sets, sets-eq}

module _ (n : ℕ) (l : List ℕ) (h : n ≤ length l) where
  pub front_long : length (take n l) ≡ n
  front_long = length-take-le n l h

  pub long_front : n ≡ length (take n l)
  long_front = sym front_long

  -- the front comes back as v
  pub front_set : (v vs : List ℕ) → length v ≡ length (take n l) → v ≡ vs → v ++ drop n l ≡ sets l 0 vs
  front_set v vs e q =
      let k : length vs ≡ n = rw q at (e ∙ front_long) in
      let z : 0 + length vs ≡ n = omega arith in
      rw (q, sets-eq vs l 0 (omega arith), z)
