-- Laws of a signed number's two parts: what is said of z in them is plain arithmetic, which `omega` reads. Assumes nothing.
use mathlib.Core.Path.{◌≡◌, refl, sym, ap, ◌∙◌}
use mathlib.Core.Bool.{Bool, true, false, not, cond}
use mathlib.Core.Logic.{◌⊎◌, inl, inr, ◌↔◌}
use Prim.Native.Nat.{ℕ, zero, suc, ◌+◌, ◌-◌, ◌*◌, ◌≤◌, ◌<◌}
use native.Mathlib.Omega.{arith}
use lib.IntN.{ℤ, pos, negsuc, neg_ℤ, sub_ℕ, ◌+ℤ◌, ◌-ℤ◌, ◌*ℤ◌}
use lib.Signed.{◌≤ℤ◌, ◌<ℤ◌}
use native.Mathlib.Nat.{not-suc-le-zero}
use lib.Dec.{T, ltb, leb→le, le→leb, ltb→lt, lt→ltb, nltb→le}
use Rattle.ground.specs.Parts.{up, dn}

-- of two parts one is 0
pub flat : (z : ℤ) → (up z ≡ 0) ⊎ (dn z ≡ 0)
flat (pos n) = inr refl
flat (negsuc n) = inl refl

-- ---- a - b, of two numbers
cond_ind : (c : Bool) (x y : ℤ) (P : ℤ → Type 0) → (T c → P x) → (T (not c) → P y) → P (cond c x y)
cond_ind true x y P f g = f tt
cond_ind false x y P f g = g tt

pub up_sub : (a b : ℕ) → up (sub_ℕ a b) ≡ a - b
up_sub a b = cond_ind (ltb a b) _ _ (λ z. up z ≡ a - b) (λ t. below (ltb→lt a b t)) (λ t. refl)
  where
    below : a < b → 0 ≡ a - b
    below h = omega arith

pub dn_sub : (a b : ℕ) → dn (sub_ℕ a b) ≡ b - a
dn_sub a b = cond_ind (ltb a b) _ _ (λ z. dn z ≡ b - a) (λ t. below (ltb→lt a b t)) (λ t. above (nltb→le a b t))
  where
    below : a < b → suc (b - suc a) ≡ b - a
    below h = omega arith

    above : b ≤ a → 0 ≡ b - a
    above h = omega arith

-- ---- two signed numbers are equal by their parts
pub parts_eq : (a b : ℤ) → up a ≡ up b → dn a ≡ dn b → a ≡ b
parts_eq (pos m) (pos n) p q = ap pos p
parts_eq (pos m) (negsuc n) p q = absurd (never q)
  where
    never : {n : ℕ} → 0 ≡ suc n → ⊥
    never h = omega arith
parts_eq (negsuc m) (pos n) p q = absurd (never q)
  where
    never : {n : ℕ} → suc n ≡ 0 → ⊥
    never h = omega arith
parts_eq (negsuc m) (negsuc n) p q = ap negsuc (less q)
  where
    less : {m n : ℕ} → suc m ≡ suc n → m ≡ n
    less h = omega arith

pub is_sub : (z : ℤ) → sub_ℕ (up z) (dn z) ≡ z
is_sub z = go (flat z)
  where
    go : (up z ≡ 0) ⊎ (dn z ≡ 0) → sub_ℕ (up z) (dn z) ≡ z
    go (inl p) = parts_eq _ z (omega (arith, up_sub (up z) (dn z))) (omega (arith, dn_sub (up z) (dn z)))
    go (inr p) = parts_eq _ z (omega (arith, up_sub (up z) (dn z))) (omega (arith, dn_sub (up z) (dn z)))

-- equal differences
pub sub_eq : (a b a' b' : ℕ) → a + b' ≡ a' + b → sub_ℕ a b ≡ sub_ℕ a' b'
sub_eq a b a' b' h = parts_eq _ _ (up_sub a b ∙ u ∙ sym (up_sub a' b')) (dn_sub a b ∙ d ∙ sym (dn_sub a' b'))
  where
    u : a - b ≡ a' - b'
    u = omega arith

    d : b - a ≡ b' - a'
    d = omega arith

-- the sum
pub sum_sub : (x y : ℤ) → x +ℤ y ≡ sub_ℕ (up x + up y) (dn x + dn y)
sum_sub (pos a) (pos b) = parts_eq _ _ (omega (arith, up_sub (a + b) (0 + 0))) (omega (arith, dn_sub (a + b) (0 + 0)))
sum_sub (pos a) (negsuc b) = sub_eq a (suc b) (a + 0) (0 + suc b) (omega arith)
sum_sub (negsuc a) (pos b) = sub_eq b (suc a) (0 + b) (suc a + 0) (omega arith)
sum_sub (negsuc a) (negsuc b) = parts_eq _ _ (omega (arith, up_sub (0 + 0) (suc a + suc b))) (omega (arith, dn_sub (0 + 0) (suc a + suc b)))

pub up_sum : (x y : ℤ) → up (x +ℤ y) ≡ (up x + up y) - (dn x + dn y)
up_sum x y = ap up (sum_sub x y) ∙ up_sub _ _

pub dn_sum : (x y : ℤ) → dn (x +ℤ y) ≡ (dn x + dn y) - (up x + up y)
dn_sum x y = ap dn (sum_sub x y) ∙ dn_sub _ _

-- the sum of two differences
pub sub_sum : (a b c d : ℕ) → sub_ℕ a b +ℤ sub_ℕ c d ≡ sub_ℕ (a + c) (b + d)
sub_sum a b c d =
    sum_sub (sub_ℕ a b) (sub_ℕ c d)
    ∙ sub_eq (up (sub_ℕ a b) + up (sub_ℕ c d)) (dn (sub_ℕ a b) + dn (sub_ℕ c d)) (a + c) (b + d) (omega (arith, up_sub a b, up_sub c d, dn_sub a b, dn_sub c d))

-- ---- signed differences and orders, by the parts
pub minus_is : (a b : ℕ) → pos a -ℤ pos b ≡ sub_ℕ a b
minus_is a zero = parts_eq _ _ (omega (arith, up_sub a 0)) (omega (arith, dn_sub a 0))
minus_is a (suc b) = refl

pub pos_minus : (n : ℕ) (z : ℤ) → pos n -ℤ z ≡ sub_ℕ (n + dn z) (up z)
pos_minus n (pos m) = minus_is n m ∙ sub_eq n m (n + 0) m (omega arith)
pos_minus n (negsuc m) = parts_eq _ _ (omega (arith, up_sub (n + suc m) 0)) (omega (arith, dn_sub (n + suc m) 0))

-- z <= n, and -n <= z
pub le_pos : (z : ℤ) (n : ℕ) → z ≤ℤ pos n ↔ up z ≤ n
le_pos (pos m) n = (λ h. leb→le m n h.le, λ h. record { le = le→leb m n h })
le_pos (negsuc m) n = (λ h. omega arith, λ h. record { le = tt })

pub neg_le : (z : ℤ) (n : ℕ) → neg_ℤ (pos n) ≤ℤ z ↔ dn z ≤ n
neg_le (pos m) zero = (λ h. omega arith, λ h. record { le = le→leb 0 m (omega arith) })
neg_le (pos m) (suc n) = (λ h. omega arith, λ h. record { le = tt })
neg_le (negsuc m) zero = (λ h. absurd h.le, λ h. absurd (none m h))
  where
    none : (m : ℕ) → suc m ≤ 0 → ⊥
    none m h = omega arith
neg_le (negsuc m) (suc n) = (λ h. suc_le (leb→le m n h.le), λ h. record { le = le→leb m n (le-suc h) })
  where
    suc_le : {m n : ℕ} → m ≤ n → suc m ≤ suc n
    suc_le h = omega arith

    le-suc : {m n : ℕ} → suc m ≤ suc n → m ≤ n
    le-suc h = omega arith

-- the parts of a product
up_neg : (k : ℕ) → up (neg_ℤ (pos k)) ≡ 0
up_neg zero = refl
up_neg (suc k) = refl

dn_neg : (k : ℕ) → dn (neg_ℤ (pos k)) ≡ k
dn_neg zero = refl
dn_neg (suc k) = refl

pub up_mul : (x y : ℤ) → up (x *ℤ y) ≡ up x * up y + dn x * dn y
up_mul (pos a) (pos b) = omega arith
up_mul (pos a) (negsuc b) = omega (arith, up_neg (a * suc b))
up_mul (negsuc a) (pos b) = omega (arith, up_neg (suc a * b))
up_mul (negsuc a) (negsuc b) = omega arith

pub dn_mul : (x y : ℤ) → dn (x *ℤ y) ≡ up x * dn y + dn x * up y
dn_mul (pos a) (pos b) = omega arith
dn_mul (pos a) (negsuc b) = omega (arith, dn_neg (a * suc b))
dn_mul (negsuc a) (pos b) = omega (arith, dn_neg (suc a * b))
dn_mul (negsuc a) (negsuc b) = omega arith

pub pos_lt : (z : ℤ) (n : ℕ) → pos n <ℤ z ↔ n < up z
pos_lt (pos m) n = (λ h. ltb→lt n m h.lt, λ h. record { lt = lt→ltb n m h })
pos_lt (negsuc m) n = (λ h. absurd h.lt, λ h. absurd (not-suc-le-zero h))

-- a + q - p in ℤ, by its parts
up_moved : (a q p : ℕ) → up (pos a +ℤ (pos q -ℤ pos p)) ≡ (a + (q - p)) - (p - q)
up_moved a q p = ap (λ (z : ℤ). up (pos a +ℤ z)) (minus_is q p) ∙ up_sum (pos a) (sub_ℕ q p) ∙ omega (arith, up_sub q p, dn_sub q p)

dn_moved : (a q p : ℕ) → dn (pos a +ℤ (pos q -ℤ pos p)) ≡ (p - q) - (a + (q - p))
dn_moved a q p = ap (λ (z : ℤ). dn (pos a +ℤ z)) (minus_is q p) ∙ dn_sum (pos a) (sub_ℕ q p) ∙ omega (arith, up_sub q p, dn_sub q p)

-- a + q - p against a number, with nothing subtracted
pub moved_le : (a q p c : ℕ) → (pos a +ℤ (pos q -ℤ pos p)) ≤ℤ pos c ↔ a + q ≤ c + p
moved_le a q p c =
    let u = up_moved a q p in (
      λ h. let l = (le_pos (pos a +ℤ (pos q -ℤ pos p)) c).0 h in omega arith,
      λ h. (le_pos (pos a +ℤ (pos q -ℤ pos p)) c).1 (omega arith),
    )

pub moved_lt : (a q p c : ℕ) → pos c <ℤ (pos a +ℤ (pos q -ℤ pos p)) ↔ c + p < a + q
moved_lt a q p c =
    let u = up_moved a q p in (
      λ h. let l = (pos_lt (pos a +ℤ (pos q -ℤ pos p)) c).0 h in omega arith,
      λ h. (pos_lt (pos a +ℤ (pos q -ℤ pos p)) c).1 (omega arith),
    )

pub moved_is : (a q p x : ℕ) → pos x ≡ pos a +ℤ (pos q -ℤ pos p) ↔ x + p ≡ a + q
moved_is a q p x =
    let u = up_moved a q p in
    let d = dn_moved a q p in (
      λ h. omega (arith, ap up h, ap dn h),
      λ h. parts_eq (pos x) (pos a +ℤ (pos q -ℤ pos p)) (omega arith) (omega arith),
    )
