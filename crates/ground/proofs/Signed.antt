-- Signed numbers as the machine holds them, by their bits: for the functions that cross between signed and unsigned, over the width. Assumes nothing.
use mathlib.Core.Path.{◌≡◌, refl, sym, ap, subst, ◌∙◌}
use mathlib.Core.Bool.{Bool, true, false}
use Prim.Native.Nat.{ℕ, suc, ◌+◌, ◌-◌, ◌≤◌, ◌<◌, ◌^◌}
use native.Mathlib.Omega.{arith}
use lib.IntN.{ℤ, pos, negsuc, nat_abs, sub_ℕ}
use lib.Signed.{mag, lt_z, non_neg}
use lib.Dec.{T, ltb, ltb→lt, lit≤}
use mir.Syntax.{Width, w8, w16, w32, w64, w128}
use mir.Val.{Fits, SFits, bits, hbits, to_z, of_z}
use mir.Facts.{to_z-of_z, to_z_pos, Fits-nat_abs}
use Rattle.ground.specs.Parts.{up, dn}
use Rattle.ground.proofs.Parts.{up_sub, dn_sub}

nothing_below : (n : ℕ) → T (ltb n 0) → ⊥
nothing_below n t = omega (arith, ltb→lt n 0 t)

half : (w : Width) → 2 ^ hbits w ≤ 2 ^ bits w
half w8 = lit≤ tt
half w16 = lit≤ tt
half w32 = lit≤ tt
half w64 = lit≤ tt
half w128 = lit≤ tt

pub dn_fits : (w : Width) (z : ℤ) → SFits w z → dn z ≤ 2 ^ hbits w
dn_fits w (pos n) f = omega arith
dn_fits w (negsuc n) f = f.sfits

pub up_fits : (w : Width) (z : ℤ) → SFits w z → up z < 2 ^ hbits w
up_fits w (pos n) f = f.sfits
up_fits w (negsuc n) f = omega (arith, f.sfits)

-- where the test `x < 0` failed
module _ (w : Width) (z : ℤ) (f : SFits w z) (left : lt_z (to_z w (of_z w z)) (pos 0) ≡ false) where
  not_negative : T (non_neg z)
  not_negative = go z (ap (λ (y : ℤ). lt_z y (pos 0)) (sym (to_z-of_z {w = w} f)) ∙ left)
    where
      go : (z : ℤ) → lt_z z (pos 0) ≡ false → T (non_neg z)
      go (pos n) e = tt
      go (negsuc n) e = subst (λ (b : Bool). T b) e tt

  -- `x as u32` loses nothing, and is x's upper part
  pub cast_fits : T (ltb (hbits w) 32) → T (non_neg (to_z w (of_z w z))) × Fits w32 (nat_abs (to_z w (of_z w z)))
  cast_fits t = subst (λ (y : ℤ). T (non_neg y) × Fits w32 (nat_abs y)) (sym (to_z-of_z {w = w} f)) (not_negative, Fits-nat_abs t f)

  pub cast_up : nat_abs (to_z w (of_z w z)) ≡ up z
  cast_up = ap nat_abs (to_z-of_z {w = w} f) ∙ go z not_negative
    where
      go : (z : ℤ) → T (non_neg z) → nat_abs z ≡ up z
      go (pos n) t = refl
      go (negsuc n) t = absurd t

  pub no_down : 0 ≡ dn z
  no_down = go z not_negative
    where
      go : (z : ℤ) → T (non_neg z) → 0 ≡ dn z
      go (pos n) t = refl
      go (negsuc n) t = absurd t

-- where the test `x < 0` held
module _ (w : Width) (z : ℤ) (f : SFits w z) (taken : lt_z (to_z w (of_z w z)) (pos 0) ≡ true) where
  negative : T (lt_z z (pos 0))
  negative = subst (λ (b : Bool). T b) (sym (ap (λ (y : ℤ). lt_z y (pos 0)) (sym (to_z-of_z {w = w} f)) ∙ taken)) tt

  pub no_up : 0 ≡ up z
  no_up = go z negative
    where
      go : (z : ℤ) → T (lt_z z (pos 0)) → 0 ≡ up z
      go (pos n) t = absurd (nothing_below n t)
      go (negsuc n) t = refl

  -- `!x` is -x - 1
  flip_is : to_z w ((2 ^ bits w - 1) - of_z w z) ≡ pos (dn z - 1)
  flip_is = go z f negative
    where
      flipped : (n b h : ℕ) → n < h → h ≤ b → (b - 1) - (b - suc n) ≡ n
      flipped n b h p q = omega arith

      one : (n : ℕ) → n ≡ suc n - 1
      one n = omega arith

      go : (z : ℤ) → SFits w z → T (lt_z z (pos 0)) → to_z w ((2 ^ bits w - 1) - of_z w z) ≡ pos (dn z - 1)
      go (pos n) f t = absurd (nothing_below n t)
      go (negsuc n) f t = ap (to_z w) (flipped n (2 ^ bits w) (2 ^ hbits w) f.sfits (half w)) ∙ to_z_pos w f.sfits ∙ ap pos (one n)

  some_down : 0 < dn z
  some_down = go z negative
    where
      go : (z : ℤ) → T (lt_z z (pos 0)) → 0 < dn z
      go (pos n) t = absurd (nothing_below n t)
      go (negsuc n) t = omega arith

  -- `(!x) as u32 + 1` loses nothing, and is x's lower part
  module _ (small : 2 ^ hbits w < 2 ^ 32) where
    pub flip_fits : T (non_neg (to_z w ((2 ^ bits w - 1) - of_z w z))) × Fits w32 (nat_abs (to_z w ((2 ^ bits w - 1) - of_z w z)))
    flip_fits = subst (λ (y : ℤ). T (non_neg y) × Fits w32 (nat_abs y)) (sym flip_is) (tt, omega (arith, dn_fits w z f))

    pub flip_more : Fits w32 (nat_abs (to_z w ((2 ^ bits w - 1) - of_z w z)) + 1)
    flip_more = subst (λ (y : ℤ). Fits w32 (nat_abs y + 1)) (sym flip_is) (omega (arith, dn_fits w z f, some_down))

  pub flip_down : nat_abs (to_z w ((2 ^ bits w - 1) - of_z w z)) + 1 ≡ dn z
  flip_down = omega (arith, ap nat_abs flip_is, some_down)

-- the difference of two numbers fits
pub sub-fits : (w : Width) (a b : ℕ) → a < 2 ^ hbits w → b < 2 ^ hbits w → SFits w (sub_ℕ a b)
sub-fits w a b p q = record { sfits = go (sub_ℕ a b) (omega (arith, up_sub a b)) (omega (arith, dn_sub a b)) }
  where
    go : (z : ℤ) → up z < 2 ^ hbits w → dn z ≤ 2 ^ hbits w → mag z < 2 ^ hbits w
    go (pos n) h l = h
    go (negsuc n) h l = l
