-- Runs of stores, `sets` of the kit's lib.Seq: one after another, and over a whole list. Assumes nothing.
use Prim.Native.Nat.{ℕ, suc, ◌+◌}
use mathlib.Core.Path.{◌≡◌, ◌∙◌}
use mathlib.Core.List.{List, [], ◌∷◌, ◌++◌, append-nil}
use native.Mathlib.Omega.{arith}
use lib.ListN.{length, set, drop_of_length-le}
use lib.Seq.{sets, sets-eq}

pub sets_both : {A : Type 0} (xs ys l : List A) (i : ℕ) → sets (sets l i xs) (i + length xs) ys ≡ sets l i (xs ++ ys)
sets_both [] ys l i = let q : i + 0 ≡ i = omega arith in rw q
sets_both (x ∷ xs) ys l i = let q : i + suc (length xs) ≡ suc i + length xs = omega arith in rw q (sets_both xs ys (set l i x) (suc i))

pub sets_whole : {A : Type 0} (vs l : List A) → length vs ≡ length l → sets l 0 vs ≡ vs
sets_whole vs l h =
    let q : 0 + length vs ≡ length vs = omega arith in
    sets-eq vs l 0 (omega arith) ∙ rw (q, drop_of_length-le l {i = length vs} (omega arith)) (append-nil vs)
