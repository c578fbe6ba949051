-- Digits there and back. Assumes nothing.
use mathlib.Core.Path.{◌≡◌, refl, sym, ◌∙◌, ap}
use mathlib.Core.Bool.{Bool, true, false, ◌&&◌, false≢true}
use mathlib.Core.List.{List, [], ◌∷◌, ◌++◌}
use Prim.Native.Nat.{ℕ, zero, suc, ◌+◌, ◌-◌, ◌*◌, ◌/◌, ◌%◌, ◌≤◌, ◌<◌}
use native.Mathlib.Omega.{arith}
use native.Mathlib.Nat.{not-suc-le-zero}
use lib.Dec.{leb}
use lib.ListN.{length, get_or}
use borrow.Author.Tests.{le-leb, lt-leb, leb-true, leb-false}
use Rattle.file_digits.specs.Frame.{value_of, is_digit, all_digits, byte_at, bytes_from}
use Rattle.file_digits.proofs.Frames.{low, num, mid, letter, high}
use Rattle.file_digits.proofs.Bytes.{Below, more, byte_shift, bytes_shift, byte_first}
use Rattle.file_put.specs.Put.{digit_of, digits_of}

pub digit_num : (n : ℕ) → n ≤ 9 → digit_of n ≡ n + 48
unfolding digit_of
digit_num n h = simp (le-leb n 9 h)

pub digit_letter : (n : ℕ) → 9 < n → digit_of n ≡ n + 55
unfolding digit_of
digit_letter n h = simp (lt-leb n 9 h)

-- the value of a digit is what it was made of, and it is a digit, and no line feed
pub value_digit : (n : ℕ) → n < 16 → (value_of (digit_of n) ≡ n) × (is_digit (digit_of n) ≡ true)
value_digit n h = go (leb n 9) refl where
  go : (b : Bool) → leb n 9 ≡ b → (value_of (digit_of n) ≡ n) × (is_digit (digit_of n) ≡ true)
  go true e =
      let l : n ≤ 9 = leb-true _ _ e in
      let d = digit_num n l in
      let v = num (n + 48) (omega arith) (omega arith) in
      let m : n + 48 - 48 ≡ n = omega arith in
      (rw d (v.0 ∙ m), rw d v.1)
  go false e =
      let l : 9 < n = leb-false _ _ e in
      let d = digit_letter n l in
      let v = letter (n + 55) (omega arith) (omega arith) in
      let m : n + 55 - 55 ≡ n = omega arith in
      (rw d (v.0 ∙ m), rw d v.1)

-- the digit of a digit's value is the digit
pub digit_value : (x : ℕ) → is_digit x ≡ true → (digit_of (value_of x) ≡ x) × (value_of x < 16)
digit_value x t = go (leb 48 x) refl (leb x 57) refl (leb 65 x) refl (leb x 70) refl where
  bad : is_digit x ≡ false → (digit_of (value_of x) ≡ x) × (value_of x < 16)
  bad f = absurd (false≢true (sym f ∙ t))

  go : (a : Bool) → leb 48 x ≡ a → (b : Bool) → leb x 57 ≡ b → (c : Bool) → leb 65 x ≡ c → (d : Bool) → leb x 70 ≡ d
      → (digit_of (value_of x) ≡ x) × (value_of x < 16)
  go false p b q c r d s = bad (low x (leb-false _ _ p)).1
  go true p true q c r d s =
      let h : 48 ≤ x = leb-true _ _ p in
      let l : x ≤ 57 = leb-true _ _ q in
      let v = num x h l in
      let m : x - 48 + 48 ≡ x = omega arith in
      (rw v.0 (digit_num (x - 48) (omega arith) ∙ m), rw v.0 (omega arith))
  go true p false q false r d s = bad (mid x (leb-false _ _ q) (leb-false _ _ r)).1
  go true p false q true r false s = bad (high x (leb-false _ _ s)).1
  go true p false q true r true s =
      let h : 65 ≤ x = leb-true _ _ r in
      let l : x ≤ 70 = leb-true _ _ s in
      let v = letter x h l in
      let m : x - 55 + 55 ≡ x = omega arith in
      (rw v.0 (digit_letter (x - 55) (omega arith) ∙ m), rw v.0 (omega arith))

-- the digits of two frames, and how many they are
pub digits_then : (a b : List ℕ) → digits_of (a ++ b) ≡ digits_of a ++ digits_of b
unfolding digits_of
digits_then [] b = refl
digits_then (x ∷ a) b = ap (λ (d : List ℕ). digit_of (x / 16) ∷ digit_of (x % 16) ∷ d) (digits_then a b)

pub digits_long : (a : List ℕ) → length (digits_of a) ≡ 2 * length a
unfolding digits_of
digits_long [] = refl
digits_long (x ∷ a) = let e = digits_long a in omega (arith, e)

-- the digits of bytes are digits
pub digits_all : (f : List ℕ) → Below 256 f → all_digits (digits_of f) ≡ true
unfolding digits_of all_digits
digits_all [] w = refl
digits_all (b ∷ f) (more h w) =
    let hi = (value_digit (b / 16) (omega arith)).1 in
    let lo = (value_digit (b % 16) (omega arith)).1 in
    simp (hi, lo) (digits_all f w)

-- bytes, to digits and back
pub back : (bs : List ℕ) → Below 256 bs → bytes_from (digits_of bs) 0 (length bs) ≡ bs
unfolding digits_of bytes_from
back [] w = refl
back (b ∷ bs) (more h w) =
    let hi = (value_digit (b / 16) (omega arith)).0 in
    let lo = (value_digit (b % 16) (omega arith)).0 in
    let e : b / 16 * 16 + b % 16 ≡ b = omega arith in
    let f : byte_at (digits_of (b ∷ bs)) 0 ≡ b = rw (byte_first (digit_of (b / 16)) (digit_of (b % 16)) (digits_of bs), hi, lo) e in
    let g : bytes_from (digits_of (b ∷ bs)) 1 (length bs) ≡ bs = bytes_shift (digit_of (b / 16)) (digit_of (b % 16)) (digits_of bs) 0 (length bs) ∙ back bs w in
    ap (λ (x : ℕ). x ∷ bytes_from (digits_of (b ∷ bs)) 1 (length bs)) f ∙ ap (λ (l : List ℕ). b ∷ l) g

-- digits, to bytes and back
pub canon : (n : ℕ) (d : List ℕ) → length d ≡ 2 * n → all_digits d ≡ true → digits_of (bytes_from d 0 n) ≡ d
unfolding digits_of bytes_from all_digits
canon zero [] e t = refl
canon zero (x ∷ d) e t = absurd (omega arith)
canon (suc n) [] e t = absurd (omega arith)
canon (suc n) (x ∷ []) e t = absurd (omega arith)
canon (suc n) (x ∷ y ∷ d) e t = go (is_digit x) refl (is_digit y) refl t (λ u. canon n d (omega arith) u) where
  go : (a : Bool) → is_digit x ≡ a → (b : Bool) → is_digit y ≡ b → (a && (b && all_digits d)) ≡ true
      → (all_digits d ≡ true → digits_of (bytes_from d 0 n) ≡ d) → digits_of (bytes_from (x ∷ y ∷ d) 0 (suc n)) ≡ x ∷ y ∷ d
  go false p b q u r = absurd (false≢true u)
  go true p false q u r = absurd (false≢true u)
  go true p true q u r =
      let vx = digit_value x p in
      let vy = digit_value y q in
      let h : (value_of x * 16 + value_of y) / 16 ≡ value_of x = omega (arith, vy.1) in
      let l : (value_of x * 16 + value_of y) % 16 ≡ value_of y = omega (arith, vy.1) in
      let g : digits_of (bytes_from (x ∷ y ∷ d) 1 n) ≡ d = ap digits_of (bytes_shift x y d 0 n) ∙ r u in
      let f : digits_of (byte_at (x ∷ y ∷ d) 0 ∷ []) ≡ x ∷ y ∷ [] = rw (byte_first x y d, h, l, vx.0, vy.0) refl in
      ap (λ (z : List ℕ). z ++ digits_of (bytes_from (x ∷ y ∷ d) 1 n)) f ∙ ap (λ (z : List ℕ). x ∷ y ∷ z) g

-- bytes, to digits and back, from a place of the frame on
pub byte_digits : (f : List ℕ) (i : ℕ) → Below 256 f → i < length f → byte_at (digits_of f) i ≡ get_or f i 0
unfolding digits_of
byte_digits [] i w h = absurd (not-suc-le-zero h)
byte_digits (b ∷ f) zero (more k w) h =
    let hi = (value_digit (b / 16) (omega arith)).0 in
    let lo = (value_digit (b % 16) (omega arith)).0 in
    let e : b / 16 * 16 + b % 16 ≡ b = omega arith in
    rw (byte_first (digit_of (b / 16)) (digit_of (b % 16)) (digits_of f), hi, lo) e
byte_digits (b ∷ f) (suc i) (more k w) h = byte_shift (digit_of (b / 16)) (digit_of (b % 16)) (digits_of f) i ∙ byte_digits f i w (omega arith)

front : (b c : List ℕ) → Below 256 (b ++ c) → bytes_from (digits_of (b ++ c)) 0 (length b) ≡ b
unfolding digits_of bytes_from
front [] c w = refl
front (x ∷ b) c (more h w) =
    let e : byte_at (digits_of (x ∷ (b ++ c))) 0 ≡ x = byte_digits (x ∷ (b ++ c)) 0 (more h w) (omega arith) in
    let g : bytes_from (digits_of (x ∷ (b ++ c))) 1 (length b) ≡ b = bytes_shift (digit_of (x / 16)) (digit_of (x % 16)) (digits_of (b ++ c)) 0 (length b) ∙ front b c w in
    ap (λ (z : ℕ). z ∷ bytes_from (digits_of (x ∷ (b ++ c))) 1 (length b)) e ∙ ap (λ (l : List ℕ). x ∷ l) g

pub piece : (a b c : List ℕ) → Below 256 (a ++ (b ++ c)) → bytes_from (digits_of (a ++ (b ++ c))) (length a) (length b) ≡ b
unfolding digits_of
piece [] b c w = front b c w
piece (x ∷ a) b c (more h w) = bytes_shift (digit_of (x / 16)) (digit_of (x % 16)) (digits_of (a ++ (b ++ c))) (length a) (length b) ∙ piece a b c w
