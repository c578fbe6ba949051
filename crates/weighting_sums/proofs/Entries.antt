-- Laws of the entries' signs: which weightings have no negative entry, and the sum of y x marking without one. Assumes nothing.
use Prim.Native.Nat.{ℕ, ◌≤◌, ◌<◌}
use mathlib.Core.Path.{◌≡◌, refl, ap, ◌∙◌}
use mathlib.Core.Bool.{true, false}
use mathlib.Core.List.{List}
use native.Mathlib.Omega.{arith}
use native.Mathlib.Decide.{dec_lt}
use lib.ListN.{length, get_or-eq_default}
use lib.IntN.{ℤ, pos, negsuc, ◌*ℤ◌, pos-*ℤ-pos}
use Rattle.ground.specs.Parts.{up, dn}
use Rattle.ground.proofs.Tests.{never}
use Rattle.ground.proofs.Scan.{first_below}
use Rattle.ground.proofs.Parts.{parts_eq}
use Rattle.net.specs.Net.{Net, tokens}
use Rattle.weighting_sums.specs.Weighting.{entry, weight}
use Rattle.weighting_sums.specs.Tests.{is_negative, picks, lowest_entry}
use Rattle.weighting_sums.specs.Walk.{total, held}
use Rattle.weighting_sums.proofs.Sum.{sum_same, sum_pos}

-- no entry is negative where no lowest one was found
not_negative : (z : ℤ) → is_negative z ≡ false → dn z ≡ 0
not_negative (pos n) e = refl
not_negative (negsuc n) e = never e

pub no_negative : (y : List ℤ) → length y ≤ lowest_entry true y → (k : ℕ) → dn (entry y k) ≡ 0
no_negative y h k = go (dec_lt k (length y))
  where
    go : Dec (k < length y) → dn (entry y k) ≡ 0
    go (yes l) = not_negative (entry y k) (first_below (λ k. picks true (entry y k)) (length y) k (omega arith))
    go (no n) = ap dn (get_or-eq_default y (pos 0) {n = k} (omega arith))

-- then the sum of y x marking is a plain sum
pub weight_is : (net : Net) (y : List ℤ) (m : List ℕ) → ((k : ℕ) → dn (entry y k) ≡ 0) → weight net y m ≡ pos (total net.places (held y m))
weight_is net y m h =
    sum_same net.places (λ p. entry y p *ℤ pos (tokens m p)) (λ p. pos (held y m p))
    (λ p l. ap (λ (z : ℤ). z *ℤ pos (tokens m p)) (parts_eq (entry y p) (pos (up (entry y p))) refl (h p)) ∙ pos-*ℤ-pos (up (entry y p)) (tokens m p))
    ∙ sum_pos net.places (held y m)
