-- Laws of bytes put one after another. Assumes nothing.
use mathlib.Core.Path.{◌≡◌, refl}
use mathlib.Core.List.{List, [], ◌∷◌}
use Prim.Native.Nat.{ℕ, ◌+◌, ◌*◌, ◌/◌, ◌%◌, ◌<◌}
use native.Mathlib.Omega.{arith}
use native.Mathlib.Numerals.{add-one}
use lib.ListN.{length, set, length-append}
use Rattle.file_put.specs.Put.{digit_of, digits_of, four, fours, Put}

pub put_one : (l : List ℕ) (at b h n x y : ℕ) → x ≡ digit_of h → h ≡ b / 16 → y ≡ digit_of n → n ≡ b % 16 → Put l at (b ∷ []) (at + 2) (set (set l at x) (at + 1) y)
unfolding digits_of
put_one l at b h n x y e f g k = record { made = rw (e, f, g, k, add-one at); next = omega arith }

-- the high byte of a number of two is a byte
pub high_byte : (n : ℕ) → n < 65536 → n / 256 % 256 ≡ n / 256
high_byte n h = omega arith

pub four_long : (n : ℕ) → length (four n) ≡ 4
unfolding four
four_long n = refl

pub fours_long : (w : List ℕ) → length (fours w) ≡ 4 * length w
unfolding fours
fours_long [] = refl
fours_long (x ∷ w) =
    let e = length-append (four x) (fours w) in
    let f = fours_long w in
    omega (arith, four_long x)
