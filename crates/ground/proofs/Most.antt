-- Laws of `most`. Assumes nothing.
use Prim.Native.Nat.{ℕ, zero, suc, ◌≤◌, ◌<◌, max, zero-le}
use mathlib.Core.Path.{◌≡◌, refl, ap}
use mathlib.Core.Logic.{⊎_elim}
use native.Mathlib.Omega.{arith}
use native.Mathlib.Nat.{eq-or-lt_of_le, le_of_suc-le-suc}
use Rattle.ground.specs.Lists.{most}

pub most_none : (f : ℕ → ℕ) → most 0 f ≡ 0
unfolding most
most_none f = refl

pub most_more : (n : ℕ) (f : ℕ → ℕ) → most (suc n) f ≡ max (most n f) (f n)
unfolding most
most_more n f = refl

pub most_at : (n : ℕ) (f : ℕ → ℕ) (i : ℕ) → i < n → f i ≤ most n f
unfolding most
most_at zero f i h = omega arith
most_at (suc n) f i h = ⊎_elim (λ e. omega (arith, ap f e)) (λ p. omega (arith, most_at n f i p)) (eq-or-lt_of_le (le_of_suc-le-suc h))

pub most_least : (n : ℕ) (f : ℕ → ℕ) (m : ℕ) → ((i : ℕ) → i < n → f i ≤ m) → most n f ≤ m
unfolding most
most_least zero f m h = zero-le
most_least (suc n) f m h = omega (arith, most_least n f m (λ i p. h i (omega arith)), h n (omega arith))

pub most_same : (n : ℕ) (f g : ℕ → ℕ) → ((i : ℕ) → f i ≡ g i) → most n f ≡ most n g
most_same n f g h = ap (most n) (λ j i. h i j)
