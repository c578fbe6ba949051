-- What letters take and put, all together: one letter further. Assumes nothing.
use Prim.Native.Nat.{ℕ, zero, suc, ◌+◌, ◌<◌}
use mathlib.Core.Path.{◌≡◌, ◌∙◌, ap}
use mathlib.Core.List.{List, [], ◌∷◌}
use native.Mathlib.Omega.{arith}
use native.Mathlib.Nat.{not-suc-le-zero, le_of_suc-le-suc}
use native.Mathlib.Numerals.{add-one}
use lib.ListN.{length, get_or, take}
use Rattle.net.specs.Net.{Net, Pre, Post}
use Rattle.orders.specs.Sums.{taken, put}

module _ (net : Net) (p d : ℕ) where
  taken_suc : (w : List ℕ) (n : ℕ) → n < length w → taken net p (take (suc n) w) ≡ taken net p (take n w) + Pre net p (get_or w n d)
  unfolding taken
  taken_suc [] n h = absurd (not-suc-le-zero h)
  taken_suc (t ∷ w) zero h = omega arith
  taken_suc (t ∷ w) (suc n) h = omega (arith, taken_suc w n (le_of_suc-le-suc h))

  put_suc : (w : List ℕ) (n : ℕ) → n < length w → put net p (take (suc n) w) ≡ put net p (take n w) + Post net p (get_or w n d)
  unfolding put
  put_suc [] n h = absurd (not-suc-le-zero h)
  put_suc (t ∷ w) zero h = omega arith
  put_suc (t ∷ w) (suc n) h = omega (arith, put_suc w n (le_of_suc-le-suc h))

  pub taken_next : (w : List ℕ) (n : ℕ) → n < length w → taken net p (take (n + 1) w) ≡ taken net p (take n w) + Pre net p (get_or w n d)
  taken_next w n h = ap (λ (k : ℕ). taken net p (take k w)) (add-one n) ∙ taken_suc w n h

  pub put_next : (w : List ℕ) (n : ℕ) → n < length w → put net p (take (n + 1) w) ≡ put net p (take n w) + Post net p (get_or w n d)
  put_next w n h = ap (λ (k : ℕ). put net p (take k w)) (add-one n) ∙ put_suc w n h
