-- Refusal 8: exactly when it is given. Assumes nothing.
use Prim.Native.Nat.{ℕ, ◌≤◌, ◌<◌}
use mathlib.Core.Path.{◌≡◌}
use mathlib.Core.Bool.{false}
use mathlib.Core.List.{List}
use native.Mathlib.Omega.{arith}
use native.Mathlib.Decide.{dec_lt}
use lib.ListN.{length, get_or-eq_default}
use lib.IntN.{ℤ, pos}
use borrow.Author.Tests.{lt-leb, leb-false}
use Rattle.ground.proofs.Scan.{first_passes}
use Rattle.weighting_sums.specs.Weighting.{entry}
use Rattle.weighting_sums.specs.Tests.{picks, lowest_entry, all_zero}
use Rattle.weighting_sums.specs.Allowed.{SomeEntry}
use Rattle.weighting_sums.proofs.Lowest.{not-zero, all_zero_lem}

-- an entry is not 0 exactly where one is found
module _ (y : List ℤ) where
  pub some_of : all_zero y ≡ false → SomeEntry y
  some_of e h =
      let l = leb-false (length y) (lowest_entry false y) e in
      not-zero _ (first_passes (λ k. picks false (entry y k)) (length y) l) (h _)

  pub of_some : SomeEntry y → all_zero y ≡ false
  of_some s = go (dec_lt (lowest_entry false y) (length y))
    where
      zero_at : length y ≤ lowest_entry false y → (k : ℕ) → Dec (k < length y) → entry y k ≡ pos 0
      zero_at h k (yes l) = all_zero_lem (entry y) (length y) h k l
      zero_at h k (no l) = get_or-eq_default y (pos 0) {n = k} (omega arith)

      go : Dec (lowest_entry false y < length y) → all_zero y ≡ false
      go (yes h) = lt-leb (length y) (lowest_entry false y) h
      go (no h) = absurd (s (λ k. zero_at (omega arith) k (dec_lt k (length y))))
