-- Laws of the steps over a mask: as the library's numbers of eight bytes and shifts, and as turns of loops. Assumes nothing.
use mathlib.Core.Path.{◌≡◌, refl, sym, ◌∙◌, ap}
use mathlib.Core.List.{List, [], ◌∷◌, ◌++◌}
use Prim.Native.Nat.{ℕ, zero, suc, ◌+◌, ◌-◌, ◌*◌, ◌/◌, ◌%◌, ◌^◌, ◌≤◌, ◌<◌}
use native.Mathlib.Omega.{arith}
use native.Mathlib.Numerals.{add-one}
use native.Mathlib.Nat.{zero-add}
use Rattle.std.proofs.Math.Nat.{div-one, div-div-eq-div-mul, pow-suc, mul_comm, div-eq_of_lt}
use Rattle.std.proofs.Math.Pow.{pow_mono}
use Rattle.std.specs.Int.{w64, from_be_bytes, to_be_bytes}
use lib.ListN.{length, get_or, drop, set, length-drop}
use lib.Seq.{sets, drop-cons, drop-length}
use Rattle.ground.specs.Limits.{count_limit}
use Rattle.ground.proofs.Stores.{sets_whole}
use Rattle.file_digits.specs.Frame.{bytes_from}
use Rattle.file_digits.proofs.Bytes.{bytes_long, stored_next}
use Rattle.file_put.specs.Put.{four}
use Rattle.file_mask.specs.Mask.{mask_bytes, mask_limit, bit_of, mask_of, bits_of, above_bits, number_from, eight}
use Rattle.file_mask.proofs.Masks.{mask_small, bits_long, above_both}

-- ---- eight bytes as the library reads and writes them
be_number : (d : List ℕ) (i : ℕ) → from_be_bytes w64 (bytes_from d i 8) ≡ number_from 0 (bytes_from d i 8)
unfolding bytes_from number_from
be_number d i = omega arith

pub read_number : (d room : List ℕ) (n : ℕ) → length room ≡ mask_bytes → n ≡ from_be_bytes w64 (sets room 0 (bytes_from d 1 8)) → n ≡ number_from 0 (bytes_from d 1 mask_bytes)
read_number d room n h e = rw (sets_whole (bytes_from d 1 8) room (bytes_long d 1 8 ∙ sym h)) at e ∙ be_number d 1

pub eight_be : (n : ℕ) → to_be_bytes w64 n ≡ eight n
unfolding eight four
eight_be n =
    let a : n / 4294967296 / 16777216 % 256 ≡ n / 72057594037927936 % 256 = omega arith in
    let b : n / 4294967296 / 65536 % 256 ≡ n / 281474976710656 % 256 = omega arith in
    let c : n / 4294967296 / 256 % 256 ≡ n / 1099511627776 % 256 = omega arith in
    let d : n % 4294967296 / 16777216 % 256 ≡ n / 16777216 % 256 = omega arith in
    let e : n % 4294967296 / 65536 % 256 ≡ n / 65536 % 256 = omega arith in
    let f : n % 4294967296 / 256 % 256 ≡ n / 256 % 256 = omega arith in
    let g : n % 4294967296 % 256 ≡ n % 256 = omega arith in
    rw (a, b, c, d, e, f, g)

-- ---- what is above the bits, as a shift
pub above_shift : (m n : ℕ) → m / 2 ^ n ≡ above_bits m n
unfolding above_bits
above_shift m zero = div-one m
above_shift m (suc n) = rw (pow-suc 2 n, mul_comm (2 ^ n) 2, ← div-div-eq-div-mul m 2 (2 ^ n)) (above_shift (m / 2) n)

pub above_all : (m n : ℕ) → m < mask_limit → 64 ≤ n → 0 ≡ above_bits m n
above_all m n h l =
    let p : 2 ^ 64 ≤ 2 ^ n = pow_mono l in
    sym (div-eq_of_lt (omega (arith, p))) ∙ above_shift m n

-- ---- a turn of the storing of marks
bits_more : (m n : ℕ) → bits_of m (suc n) ≡ bits_of m n ++ (above_bits m n % 2 ∷ [])
unfolding bits_of above_bits
bits_more m zero = refl
bits_more m (suc n) = ap (λ (l : List ℕ). m % 2 ∷ l) (bits_more (m / 2) n)

pub marks_none : (room : List ℕ) (m : ℕ) → (m ≡ above_bits m 0) × (room ≡ sets room 0 (bits_of m 0))
unfolding above_bits bits_of
marks_none room m = (refl, refl)

pub marks_next : (room l : List ℕ) (m rest p : ℕ) → rest ≡ above_bits m p → l ≡ sets room 0 (bits_of m p)
    → (rest / 2 ≡ above_bits m (p + 1)) × (set l p (rest % 2) ≡ sets room 0 (bits_of m (p + 1)))
unfolding above_bits
marks_next room l m rest p e f =
    let s = stored_next room (bits_of m p) (bits_of m (p + 1)) l 0 p (rest % 2) f (bits_long m p) (rw (add-one p, e) (bits_more m p)) in
    (rw e (sym (above_both m p 1)), rw (zero-add p) at s)

-- a turn of the making of a mask, from the last place down
pub mask_turn : (l : List ℕ) (p mask b q : ℕ) → 0 < p → p ≤ length l → q ≡ p - 1 → b ≡ bit_of (get_or l q 0) → mask ≡ mask_of (drop p l) → b + 2 * mask ≡ mask_of (drop q l)
unfolding mask_of
mask_turn l p mask b q h k e f g =
    let i : p ≡ suc q = omega arith in
    rw (drop-cons l q 0 (omega arith), f, g, i)

pub mask_room : (l : List ℕ) (q n : ℕ) → n ≡ mask_of (drop q l) → length l ≤ count_limit → n < mask_limit
mask_room l q n e h = rw e (mask_small (drop q l) (omega (arith, length-drop q l)))

-- and how it starts
pub mask_none_left : (l : List ℕ) → 0 ≡ mask_of (drop (length l) l)
unfolding mask_of
mask_none_left l = rw (drop-length l)
