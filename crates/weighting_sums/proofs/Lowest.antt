-- The tests of a weighting say what is published: which numbers are 0, which is the lowest that is not, which entries are negative. Assumes nothing.
use Prim.Native.Nat.{ℕ, ◌≤◌, ◌<◌}
use mathlib.Core.Path.{◌≡◌, refl, sym, ap, ◌∙◌}
use mathlib.Core.Bool.{Bool, true, false, not, cond}
use mathlib.Core.Logic.{◌↔◌}
use mathlib.Core.List.{List}
use native.Mathlib.Omega.{arith}
use lib.ListN.{length}
use lib.Dec.{ltb, eqb}
use lib.IntN.{ℤ, pos, negsuc}
use borrow.Author.Tests.{ltb-true, ltb-false, lt-ltb, le-ltb, eqb-true}
use Rattle.ground.specs.Parts.{dn}
use Rattle.ground.specs.Lists.{first}
use Rattle.ground.proofs.Tests.{never}
use Rattle.ground.proofs.Scan.{first-at, first_none, first_below, first_passes}
use Rattle.ground.proofs.Parts.{neg_le}
use Rattle.weighting_sums.specs.Weighting.{entry, NoNegative, Lowest}
use Rattle.weighting_sums.specs.Tests.{is_zero, is_negative, picks, lowest_entry, has_negative}
use Rattle.weighting_sums.proofs.Entries.{no_negative}

zero_of : (z : ℤ) → not (is_zero z) ≡ false → z ≡ pos 0
zero_of (pos n) e = ap pos (go n (eqb n 0) refl e)
  where
    go : (n : ℕ) (b : Bool) → eqb n 0 ≡ b → not (eqb n 0) ≡ false → n ≡ 0
    go n true q e = eqb-true n 0 q
    go n false q e = never (rw q at e)
zero_of (negsuc n) e = never e

of_zero : (z : ℤ) → z ≡ pos 0 → not (is_zero z) ≡ false
of_zero z e = ap (λ (z : ℤ). not (is_zero z)) e

pub not-zero : (z : ℤ) → not (is_zero z) ≡ true → z ≡ pos 0 → ⊥
not-zero z e q = never (sym e ∙ of_zero z q)

fails_of : (z : ℤ) → (z ≡ pos 0 → ⊥) → not (is_zero z) ≡ true
fails_of z f = go (not (is_zero z)) refl
  where
    go : (b : Bool) → not (is_zero z) ≡ b → not (is_zero z) ≡ true
    go true e = e
    go false e = absurd (f (zero_of z e))

-- of n numbers: all are 0 exactly where none is found, and the lowest that is not 0 is the one that is found
module _ (f : ℕ → ℤ) (n : ℕ) where
  pub all_zero_lem : n ≤ first (λ k. not (is_zero (f k))) n → (k : ℕ) → k < n → f k ≡ pos 0
  all_zero_lem h k l = zero_of (f k) (first_below (λ k. not (is_zero (f k))) n k (omega arith))

  pub none_found : ((k : ℕ) → k < n → f k ≡ pos 0) → n ≤ first (λ k. not (is_zero (f k))) n
  none_found h = let e = first_none (λ k. not (is_zero (f k))) n (λ k l. of_zero (f k) (h k l)) in omega arith

  pub lowest_of : first (λ k. not (is_zero (f k))) n < n → Lowest f n (first (λ k. not (is_zero (f k))) n)
  lowest_of h =
      record {
        here = h;
        fails = not-zero _ (first_passes (λ k. not (is_zero (f k))) n h);
        lowest = λ k l. zero_of (f k) (first_below (λ k. not (is_zero (f k))) n k l);
      }

  pub lowest_is : (i : ℕ) → Lowest f n i → first (λ k. not (is_zero (f k))) n ≡ i
  lowest_is i l = first-at (λ k. not (is_zero (f k))) n i (λ k h. of_zero (f k) (l.lowest k h)) (fails_of (f i) l.fails) l.here

-- an answer that names the lowest of n that is not 0, if there is one
module _ {A : Type 0} (f : ℕ → ℤ) (n : ℕ) (names : ℕ → A) (same : (i k : ℕ) → names i ≡ names k → i ≡ k) (other : A) (r : A) (is : r ≡ cond (ltb (first (λ k. not (is_zero (f k))) n) n) (names (first (λ k. not (is_zero (f k))) n)) other) where
  pub named : ((i : ℕ) → other ≡ names i → ⊥) → (i : ℕ) → (r ≡ names i) ↔ Lowest f n i
  named apart i = (
    λ e. go e (ltb (first (λ k. not (is_zero (f k))) n) n) refl,
    λ l. let q = lowest_is f n i l in is ∙ rw (q, lt-ltb i n l.here),
  )
    where
      go : r ≡ names i → (b : Bool) → ltb (first (λ k. not (is_zero (f k))) n) n ≡ b → Lowest f n i
      go e true q = rw (← same _ i (sym (rw q at is) ∙ e)) (lowest_of f n (ltb-true _ _ q))
      go e false q = absurd (apart i (sym (rw q at is) ∙ e))

  pub unnamed : (a : A) → ((i : ℕ) → names i ≡ a → ⊥) → (r ≡ a) ↔ (((k : ℕ) → k < n → f k ≡ pos 0) × (other ≡ a))
  unnamed a apart = (
    λ e. go e (ltb (first (λ k. not (is_zero (f k))) n) n) refl,
    λ h. is ∙ rw (le-ltb (first (λ k. not (is_zero (f k))) n) n (none_found f n h.0)) h.1,
  )
    where
      go : r ≡ a → (b : Bool) → ltb (first (λ k. not (is_zero (f k))) n) n ≡ b → ((k : ℕ) → k < n → f k ≡ pos 0) × (other ≡ a)
      go e true q = absurd (apart _ (sym (rw q at is) ∙ e))
      go e false q = (all_zero_lem f n (ltb-false _ _ q), sym (rw q at is) ∙ e)

-- no entry is negative exactly where none is found
pub no_negative_of : (y : List ℤ) → has_negative y ≡ false → NoNegative y
no_negative_of y e =
    let d = no_negative y (ltb-false (lowest_entry true y) (length y) e) in
    record { at = λ k. (neg_le (entry y k) 0).1 (omega (arith, d k)) }

pub of_no_negative : (y : List ℤ) → NoNegative y → has_negative y ≡ false
of_no_negative y h =
    let e = first_none (λ k. picks true (entry y k)) (length y) (λ k l. plain (entry y k) ((neg_le (entry y k) 0).0 (h.at k))) in
    le-ltb (lowest_entry true y) (length y) (omega arith)
  where
    plain : (z : ℤ) → dn z ≤ 0 → is_negative z ≡ false
    plain (pos n) h = refl
    plain (negsuc n) h = absurd (omega arith)
