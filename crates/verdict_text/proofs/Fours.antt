-- Laws of a marking written place by place. Assumes nothing.
use mathlib.Core.Path.{◌≡◌, refl, ◌∙◌, ap}
use mathlib.Core.List.{List, [], ◌∷◌, ◌++◌, append_assoc, append-nil}
use Prim.Native.Nat.{ℕ, ◌+◌, ◌*◌, ◌≤◌}
use native.Mathlib.Omega.{arith}
use lib.ListN.{length, take}
use lib.Seq.{length-take-le}
use Rattle.file_put.specs.declared.Sheet.{Sheet}
use Rattle.file_put.specs.Put.{four, fours}
use Rattle.file_put.specs.Sheet.{Spelled}
use Rattle.file_put.proofs.Puts.{fours_long}

-- numbers one after another are their bytes one after another
pub fours_then : (a b : List ℕ) → fours (a ++ b) ≡ fours a ++ fours b
unfolding fours
fours_then [] b = refl
fours_then (n ∷ a) b = ap (λ (z : List ℕ). four n ++ z) (fours_then a b) ∙ rw append_assoc

pub fours_one : (n : ℕ) → fours (n ∷ []) ≡ four n
unfolding fours
fours_one n = append-nil (four n)

-- where the next is written
pub fours_at : {s t : Sheet} (m : List ℕ) (k : ℕ) → Spelled s (fours (take k m)) t → k ≤ length m → t.at ≡ s.at + 8 * k
fours_at m k p h = omega (arith, p.next, fours_long (take k m), length-take-le k m h)
