-- Laws of sums, signed and not, over any terms and any number of them. Assumes nothing.
use Prim.Native.Nat.{ℕ, zero, suc, ◌+◌, ◌-◌, ◌*◌, ◌≤◌, ◌<◌}
use mathlib.Core.Path.{◌≡◌, refl, sym, ap, ap₂, ◌∙◌}
use mathlib.Core.Bool.{false}
use mathlib.Core.Logic.{⊎_elim}
use native.Mathlib.Nat.{mul-add, eq-or-lt_of_le, le_of_suc-le-suc}
use native.Mathlib.Decide.{ℕ_discrete}
use native.Mathlib.Omega.{arith}
use native.Mathlib.Numerals.{add-one}
use lib.Dec.{eqb}
use lib.IntN.{ℤ, pos, negsuc, sub_ℕ, ◌+ℤ◌, ◌*ℤ◌, +ℤ_assoc, +ℤ_comm, +ℤ_idl, +ℤ_idr, pos-+ℤ-pos, *ℤ-one, *ℤ-zero, one}
use borrow.Author.Tests.{eq-eqb, ne_eqb}
use Rattle.ground.specs.Lists.{bit}
use Rattle.ground.specs.Parts.{up, dn}
use Rattle.ground.proofs.Parts.{up_sub, dn_sub, parts_eq, is_sub, sub_eq, sum_sub, sub_sum, up_mul, dn_mul}
use Rattle.weighting_sums.specs.Weighting.{sum}
use Rattle.weighting_sums.specs.Tests.{is_zero}
use Rattle.weighting_sums.specs.Walk.{total}

-- ---- products of signed numbers
-- k times a difference, either way
spread : (k q p : ℕ) → k * (q - p) + k * p ≡ k * q + k * (p - q)
spread k q p = sym (mul-add k (q - p) p) ∙ ap (λ (n : ℕ). k * n) (same q p) ∙ mul-add k q (p - q)
  where
    same : (q p : ℕ) → (q - p) + p ≡ q + (p - q)
    same q p = omega arith

-- x times a difference, as one difference
pub mul-sub : (x : ℤ) (a b : ℕ) → x *ℤ sub_ℕ a b ≡ sub_ℕ (up x * a + dn x * b) (up x * b + dn x * a)
mul-sub x a b =
    sym (is_sub (x *ℤ sub_ℕ a b))
    ∙ ap₂ sub_ℕ (up_mul x (sub_ℕ a b)) (dn_mul x (sub_ℕ a b))
    ∙ ap₂ (λ (u d : ℕ). sub_ℕ (up x * u + dn x * d) (up x * d + dn x * u)) (up_sub a b) (dn_sub a b)
    ∙ sub_eq (up x * (a - b) + dn x * (b - a)) (up x * (b - a) + dn x * (a - b)) (up x * a + dn x * b) (up x * b + dn x * a) (omega (arith, spread (up x) a b, spread (dn x) b a))

pub mul_plus : (x a b : ℤ) → x *ℤ (a +ℤ b) ≡ x *ℤ a +ℤ x *ℤ b
mul_plus x a b =
    ap (λ (z : ℤ). x *ℤ z) (sum_sub a b)
    ∙ mul-sub x (up a + up b) (dn a + dn b)
    ∙ sub_eq (up x * (up a + up b) + dn x * (dn a + dn b)) (up x * (dn a + dn b) + dn x * (up a + up b)) ((up x * up a + dn x * dn a) + (up x * up b + dn x * dn b)) ((up x * dn a + dn x * up a) + (up x * dn b + dn x * up b))
    (omega (arith, mul-add (up x) (up a) (up b), mul-add (dn x) (dn a) (dn b), mul-add (up x) (dn a) (dn b), mul-add (dn x) (up a) (up b)))
    ∙ sym (sub_sum (up x * up a + dn x * dn a) (up x * dn a + dn x * up a) (up x * up b + dn x * dn b) (up x * dn b + dn x * up b))
    ∙ ap₂ ◌+ℤ◌ (sym (mul-sub x (up a) (dn a)) ∙ ap (λ (z : ℤ). x *ℤ z) (is_sub a)) (sym (mul-sub x (up b) (dn b)) ∙ ap (λ (z : ℤ). x *ℤ z) (is_sub b))

-- ---- the test for 0
pub zero-sub : (a b : ℕ) → is_zero (sub_ℕ a b) ≡ eqb a b
zero-sub a b = elim (ℕ_discrete a b) [ yes e ↦ same e | no f ↦ other f ]
  where
    same : a ≡ b → is_zero (sub_ℕ a b) ≡ eqb a b
    same e =
        let z : sub_ℕ a b ≡ pos 0 = parts_eq (sub_ℕ a b) (pos 0) (omega (arith, up_sub a b)) (omega (arith, dn_sub a b)) in
        ap is_zero z ∙ sym (eq-eqb a b e)

    nonzero : (z : ℤ) → 0 < up z + dn z → is_zero z ≡ false
    nonzero (pos n) h = ne_eqb n 0 (λ e. omega arith)
    nonzero (negsuc n) h = refl

    other : (a ≡ b → ⊥) → is_zero (sub_ℕ a b) ≡ eqb a b
    other f = nonzero (sub_ℕ a b) (omega (arith, up_sub a b, dn_sub a b)) ∙ sym (ne_eqb a b f)

-- ---- sums
pub sum_same : (n : ℕ) (f g : ℕ → ℤ) → ((k : ℕ) → k < n → f k ≡ g k) → sum n f ≡ sum n g
unfolding sum
sum_same zero f g h = refl
sum_same (suc n) f g h = ap₂ ◌+ℤ◌ (sum_same n f g (λ k l. h k (omega arith))) (h n (omega arith))

-- the sum of the differences is the difference of the sums
pub two_sums : (n : ℕ) (f g : ℕ → ℕ) → sum n (λ k. sub_ℕ (f k) (g k)) ≡ sub_ℕ (total n f) (total n g)
unfolding sum total
two_sums zero f g = refl
two_sums (suc n) f g =
    ap (λ (z : ℤ). z +ℤ sub_ℕ (f n) (g n)) (two_sums n f g) ∙ sub_sum (total n f) (total n g) (f n) (g n)

pub sum_pos : (n : ℕ) (f : ℕ → ℕ) → sum n (λ k. pos (f k)) ≡ pos (total n f)
unfolding sum total
sum_pos zero f = refl
sum_pos (suc n) f = ap (λ (z : ℤ). z +ℤ pos (f n)) (sum_pos n f) ∙ pos-+ℤ-pos (total n f) (f n)

four : (a b c d : ℤ) → (a +ℤ b) +ℤ (c +ℤ d) ≡ (a +ℤ c) +ℤ (b +ℤ d)
four a b c d =
    +ℤ_assoc a b (c +ℤ d)
    ∙ ap (λ (z : ℤ). a +ℤ z) (sym (+ℤ_assoc b c d) ∙ ap (λ (z : ℤ). z +ℤ d) (+ℤ_comm b c) ∙ +ℤ_assoc c b d)
    ∙ sym (+ℤ_assoc a c (b +ℤ d))

pub sum_both : (n : ℕ) (f g : ℕ → ℤ) → sum n (λ k. f k +ℤ g k) ≡ sum n f +ℤ sum n g
unfolding sum
sum_both zero f g = refl
sum_both (suc n) f g = ap (λ (z : ℤ). z +ℤ (f n +ℤ g n)) (sum_both n f g) ∙ four (sum n f) (sum n g) (f n) (g n)

pub sum_none : (n : ℕ) (f : ℕ → ℤ) → ((k : ℕ) → k < n → f k ≡ pos 0) → sum n f ≡ pos 0
unfolding sum
sum_none zero f h = refl
sum_none (suc n) f h = ap₂ ◌+ℤ◌ (sum_none n f (λ k l. h k (omega arith))) (h n (omega arith))

-- a sum in which only term i counts
pub sum_at : (n i : ℕ) (f : ℕ → ℤ) → i < n → sum n (λ k. f k *ℤ pos (bit (eqb i k))) ≡ f i
unfolding sum one
sum_at zero i f h = absurd (omega arith)
sum_at (suc n) i f h = ⊎_elim last (earlier (sum_at n i f)) (eq-or-lt_of_le (le_of_suc-le-suc h))
  where
    out : (k : ℕ) → (i ≡ k → ⊥) → f k *ℤ pos (bit (eqb i k)) ≡ pos 0
    out k q = rw (ne_eqb i k q) (*ℤ-zero (f k))

    here : (k : ℕ) → i ≡ k → f k *ℤ pos (bit (eqb i k)) ≡ f k
    here k q = rw (eq-eqb i k q) (*ℤ-one (f k))

    last : i ≡ n → sum n (λ k. f k *ℤ pos (bit (eqb i k))) +ℤ f n *ℤ pos (bit (eqb i n)) ≡ f i
    last e =
        ap₂ ◌+ℤ◌ (sum_none n (λ k. f k *ℤ pos (bit (eqb i k))) (λ k l. out k (λ q. omega arith))) (here n e)
        ∙ +ℤ_idl (f n)
        ∙ ap f (sym e)

    earlier : (i < n → sum n (λ k. f k *ℤ pos (bit (eqb i k))) ≡ f i) → i < n → sum n (λ k. f k *ℤ pos (bit (eqb i k))) +ℤ f n *ℤ pos (bit (eqb i n)) ≡ f i
    earlier ih l = ap₂ ◌+ℤ◌ (ih l) (out n (λ q. omega arith)) ∙ +ℤ_idr (f i)

pub total_none : (f : ℕ → ℕ) → 0 ≡ total 0 f
unfolding total
total_none f = refl

pub total_more : (n : ℕ) (f : ℕ → ℕ) → total n f + f n ≡ total (n + 1) f
unfolding total
total_more n f = rw add-one

pub total_at : (n : ℕ) (f : ℕ → ℕ) (k : ℕ) → k < n → f k ≤ total n f
unfolding total
total_at zero f k h = omega arith
total_at (suc n) f k h = ⊎_elim (λ e. omega (arith, ap f e)) (λ l. omega (arith, total_at n f k l)) (eq-or-lt_of_le (le_of_suc-le-suc h))
