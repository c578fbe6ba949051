-- Laws of `latest`, for any buckets: it stands in its bucket, and nothing of that bucket stands above it. Assumes nothing.
use Prim.Native.Nat.{ℕ, zero, suc, ◌-◌, ◌≤◌, ◌<◌, zero-le}
use mathlib.Core.Path.{◌≡◌, refl, ap, ◌∙◌}
use mathlib.Core.Bool.{Bool, true, false, cond}
use native.Mathlib.Omega.{arith}
use native.Mathlib.Nat.{not-suc-le-zero}
use native.Mathlib.Decide.{dec_lt}
use lib.Dec.{eqb}
use borrow.Author.Tests.{eqb-true, eqb-false, eq-eqb, ne_eqb}
use Rattle.list_index.specs.Index.{latest}

pub latest_most : (h : ℕ → ℕ) (b n : ℕ) → latest h b n ≤ n
unfolding latest
latest_most h b zero = zero-le
latest_most h b (suc n) = go (eqb (h n) b) (latest_most h b n)
  where
    go : (t : Bool) → latest h b n ≤ n → cond t (suc n) (latest h b n) ≤ suc n
    go true ih = omega arith
    go false ih = omega arith

-- where there is one, it is of bucket b
pub latest_here : (h : ℕ → ℕ) (b n : ℕ) → 0 < latest h b n → h (latest h b n - 1) ≡ b
unfolding latest
latest_here h b zero l = absurd (not-suc-le-zero l)
latest_here h b (suc n) l = go (eqb (h n) b) refl l (latest_here h b n)
  where
    go : (t : Bool) → eqb (h n) b ≡ t → 0 < cond t (suc n) (latest h b n) → (0 < latest h b n → h (latest h b n - 1) ≡ b) → h (cond t (suc n) (latest h b n) - 1) ≡ b
    go true e l ih = let q : suc n - 1 ≡ n = omega arith in ap h q ∙ eqb-true (h n) b e
    go false e l ih = ih l

-- from it on, none below n is
pub latest_apart : (h : ℕ → ℕ) (b n j : ℕ) → latest h b n ≤ j → j < n → h j ≡ b → ⊥
unfolding latest
latest_apart h b zero j l a e = not-suc-le-zero a
latest_apart h b (suc n) j l a e = go (eqb (h n) b) refl l (latest_apart h b n j) (dec_lt j n)
  where
    go : (t : Bool) → eqb (h n) b ≡ t → cond t (suc n) (latest h b n) ≤ j → (latest h b n ≤ j → j < n → h j ≡ b → ⊥) → Dec (j < n) → ⊥
    go true q k ih d = omega arith
    go false q k ih (yes s) = ih k s e
    go false q k ih (no s) = let z : n ≡ j = omega arith in eqb-false (h n) b q (ap h z ∙ e)

-- one marking more
pub latest_same : (h : ℕ → ℕ) (b n : ℕ) → h n ≡ b → latest h b (suc n) ≡ suc n
unfolding latest
latest_same h b n e = rw (eq-eqb (h n) b e)

pub latest_other : (h : ℕ → ℕ) (b n : ℕ) → (h n ≡ b → ⊥) → latest h b (suc n) ≡ latest h b n
unfolding latest
latest_other h b n x = rw (ne_eqb (h n) b x)
