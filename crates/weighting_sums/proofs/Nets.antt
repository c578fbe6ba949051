-- The sums of the lines that the code goes along, a net's rows and columns, are the published ones. Assumes nothing.
use Prim.Native.Nat.{ℕ, ◌+◌, ◌*◌}
use mathlib.Core.Path.{◌≡◌, ap, ◌∙◌}
use mathlib.Core.Bool.{Bool, not}
use mathlib.Core.List.{List}
use native.Mathlib.Omega.{arith}
use lib.ListN.{length, get_or}
use lib.IntN.{ℤ, pos, ◌-ℤ◌, ◌*ℤ◌, *ℤ_comm}
use Rattle.ground.specs.Lists.{first}
use Rattle.net.specs.Net.{Net, Change}
use Rattle.weighting_sums.specs.Weighting.{sum, entry, place_sum, transition_sum}
use Rattle.weighting_sums.specs.Tests.{is_zero, lowest_transition, lowest_place}
use Rattle.weighting_sums.specs.Walk.{cell, line_sum, line_fails}
use Rattle.weighting_sums.proofs.Sum.{sum_same}

module _ (net : Net) (y : List ℤ) where
  -- cells of the two tables at one index
  change_at : (a b : ℕ) → a ≡ b → pos (get_or net.post a 0) -ℤ pos (get_or net.pre a 0) ≡ pos (get_or net.post b 0) -ℤ pos (get_or net.pre b 0)
  change_at a b e = ap (λ (n : ℕ). pos (get_or net.post n 0) -ℤ pos (get_or net.pre n 0)) e

  -- the sum of a row is a transition's, the sum of a column a place's
  pub row_is : length y ≡ net.places → (t : ℕ) → line_sum net y (t * net.places) 1 ≡ place_sum net y t
  unfolding line_sum
  row_is long t =
      ap (λ (n : ℕ). sum n (λ k. entry y k *ℤ (pos (cell net.post (t * net.places) 1 k) -ℤ pos (cell net.pre (t * net.places) 1 k)))) long
      ∙ sum_same net.places _ (λ p. entry y p *ℤ Change net p t)
      (λ k h. ap (λ (z : ℤ). entry y k *ℤ z) (change_at (t * net.places + k * 1) (t * net.places + k) (omega arith)))

  pub column-is : length y ≡ net.transitions → (p : ℕ) → line_sum net y (p * 1) net.places ≡ transition_sum net y p
  unfolding line_sum
  column-is long p =
      ap (λ (n : ℕ). sum n (λ k. entry y k *ℤ (pos (cell net.post (p * 1) net.places k) -ℤ pos (cell net.pre (p * 1) net.places k)))) long
      ∙ sum_same net.transitions _ (λ t. Change net p t *ℤ entry y t)
      (λ k h. ap (λ (z : ℤ). entry y k *ℤ z) (change_at (p * 1 + k * net.places) (k * net.places + p) (omega arith)) ∙ *ℤ_comm (entry y k) (Change net p k))

  pub rows_first : length y ≡ net.places → first (λ i. line_fails net y (i * net.places) 1) net.transitions ≡ lowest_transition net y
  rows_first long = ap (λ (f : ℕ → Bool). first f net.transitions) (λ j t. not (is_zero (row_is long t j)))

  pub columns_first : length y ≡ net.transitions → first (λ i. line_fails net y (i * 1) net.places) net.places ≡ lowest_place net y
  columns_first long = ap (λ (f : ℕ → Bool). first f net.places) (λ j p. not (is_zero (column-is long p j)))
