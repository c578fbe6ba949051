-- Laws of a line's digits. Assumes nothing.
use mathlib.Core.Path.{◌≡◌}
use mathlib.Core.Bool.{true, false}
use Prim.Native.Nat.{ℕ, ◌-◌, ◌≤◌, ◌<◌}
use native.Mathlib.Omega.{arith}
use borrow.Author.Tests.{le-leb, lt-leb}
use Rattle.file_digits.specs.Frame.{value_of, is_digit}

module _ (b : ℕ) where
  pub low : b < 48 → (value_of b ≡ 0) × (is_digit b ≡ false)
  unfolding value_of is_digit
  low h = (simp (lt-leb 48 b h), simp (lt-leb 48 b h))

  pub num : 48 ≤ b → b ≤ 57 → (value_of b ≡ b - 48) × (is_digit b ≡ true)
  unfolding value_of is_digit
  num h l = (simp (le-leb 48 b h, le-leb b 57 l), simp (le-leb 48 b h, le-leb b 57 l))

  pub mid : 57 < b → b < 65 → (value_of b ≡ 0) × (is_digit b ≡ false)
  unfolding value_of is_digit
  mid h l =
      let z : 48 ≤ b = omega arith in
      (simp (le-leb 48 b z, lt-leb b 57 h, lt-leb 65 b l), simp (le-leb 48 b z, lt-leb b 57 h, lt-leb 65 b l))

  pub letter : 65 ≤ b → b ≤ 70 → (value_of b ≡ b - 55) × (is_digit b ≡ true)
  unfolding value_of is_digit
  letter h l =
      let z : 48 ≤ b = omega arith in
      let y : 57 < b = omega arith in
      (simp (le-leb 48 b z, lt-leb b 57 y, le-leb 65 b h, le-leb b 70 l), simp (le-leb 48 b z, lt-leb b 57 y, le-leb 65 b h, le-leb b 70 l))

  pub high : 70 < b → (value_of b ≡ 0) × (is_digit b ≡ false)
  unfolding value_of is_digit
  high h =
      let z : 48 ≤ b = omega arith in
      let y : 57 < b = omega arith in
      let x : 65 ≤ b = omega arith in
      (simp (le-leb 48 b z, lt-leb b 57 y, le-leb 65 b x, lt-leb b 70 h), simp (le-leb 48 b z, lt-leb b 57 y, le-leb 65 b x, lt-leb b 70 h))
