-- The digit rule, as the code tests it, is document 01's. Assumes nothing.
use mathlib.Core.Path.{◌≡◌, refl, sym, ◌∙◌}
use mathlib.Core.Bool.{Bool, true, false, ◌&&◌, false≢true}
use mathlib.Core.Logic.{inl, inr, ◌↔◌}
use mathlib.Core.List.{List, [], ◌∷◌}
use Prim.Native.Nat.{ℕ, zero, suc, ◌<◌, ◌%◌}
use native.Mathlib.Omega.{arith}
use native.Mathlib.Nat.{not-suc-le-zero}
use lib.Dec.{leb}
use lib.ListN.{length, get_or}
use borrow.Author.Tests.{eq-eqb, le-leb, leb-true, leb-false}
use Rattle.file_digits.specs.Frame.{line_limit, is_digit, all_digits}
use Rattle.file_digits.proofs.Frames.{low, num, mid, letter, high}
use Rattle.file_line.specs.Read.{rule_of}
use Rattle.file_line.specs.Line.{Digit, Ruled}
use Rattle.file_line.proofs.Turns.{rule_says}

-- a digit is one of 0-9 and A-F
digit_is : (b : ℕ) → is_digit b ≡ true → Digit b
digit_is b t = go (leb 48 b) refl (leb b 57) refl (leb 65 b) refl (leb b 70) refl
  where
    bad : is_digit b ≡ false → Digit b
    bad f = absurd (false≢true (sym f ∙ t))

    go : (x : Bool) → leb 48 b ≡ x → (y : Bool) → leb b 57 ≡ y → (z : Bool) → leb 65 b ≡ z → (w : Bool) → leb b 70 ≡ w → Digit b
    go false p y q z r w s = bad (low b (leb-false _ _ p)).1
    go true p true q z r w s = inl (leb-true _ _ p, leb-true _ _ q)
    go true p false q false r w s = bad (mid b (leb-false _ _ q) (leb-false _ _ r)).1
    go true p false q true r true s = inr (leb-true _ _ r, leb-true _ _ s)
    go true p false q true r false s = bad (high b (leb-false _ _ s)).1

is_digit_lem : (b : ℕ) → Digit b → is_digit b ≡ true
is_digit_lem b (inl h) = (num b h.0 h.1).1
is_digit_lem b (inr h) = (letter b h.0 h.1).1

digits_are : (d : List ℕ) (k : ℕ) → all_digits d ≡ true → k < length d → Digit (get_or d k 0)
unfolding all_digits
digits_are [] k t h = absurd (not-suc-le-zero h)
digits_are (b ∷ d) k t h = go (is_digit b) refl t k h (λ k u l. digits_are d k u l)
  where
    go : (a : Bool) → is_digit b ≡ a → (a && all_digits d) ≡ true → (k : ℕ) → k < suc (length d) → ((k : ℕ) → all_digits d ≡ true → k < length d → Digit (get_or d k 0)) → Digit (get_or (b ∷ d) k 0)
    go false p u k l r = absurd (false≢true u)
    go true p u zero l r = digit_is b p
    go true p u (suc k) l r = r k u (omega arith)

are_digits : (d : List ℕ) → ((k : ℕ) → k < length d → Digit (get_or d k 0)) → all_digits d ≡ true
unfolding all_digits
are_digits [] h = refl
are_digits (b ∷ d) h = simp (is_digit_lem b (h 0 (omega arith))) (are_digits d (λ k l. h (suc k) (omega arith)))

pub rule_all : (d : List ℕ) → rule_of d ≡ true → all_digits d ≡ true
rule_all d h = (rule_says d h).3

-- the digit rule, as the code tests it, is document 01's
pub rule_exactly : (d : List ℕ) → (rule_of d ≡ true) ↔ Ruled d
unfolding rule_of
rule_exactly d = (
  λ h.
      let z = rule_says d h in
      record { least = z.0; most = z.1; even = z.2; digits = λ k l. digits_are d k z.3 l },
  λ r.
      simp (le-leb 2 (length d) r.least, le-leb (length d) line_limit r.most, eq-eqb (length d % 2) 0 r.even) (are_digits d r.digits),
)
