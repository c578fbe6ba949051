-- Laws of a mask: its bits, its bytes, and the marks that it stands for, there and back. Assumes nothing.
use mathlib.Core.Path.{◌≡◌, refl, sym, ◌∙◌, ap}
use mathlib.Core.Bool.{Bool, true, false, cond}
use mathlib.Core.List.{List, [], ◌∷◌, ◌++◌, map, append-nil}
use mathlib.Core.Logic.{◌↔◌}
use Prim.Native.Nat.{ℕ, zero, suc, ◌+◌, ◌-◌, ◌*◌, ◌/◌, ◌%◌, ◌≤◌, ◌<◌, zero-le}
use native.Mathlib.Omega.{arith}
use native.Mathlib.Nat.{not-suc-le-zero, zero-add, suc-add}
use lib.ListN.{length, get_or, take, drop, length-append, take-append-drop, length-drop, get_or-map}
use lib.Seq.{length-take-le}
use lib.Dec.{eqb}
use borrow.Author.Tests.{eq-eqb, ne_eqb, eqb-true, eqb-false}
use Rattle.ground.specs.Limits.{count_limit}
use Rattle.file_digits.specs.Frame.{bytes_from}
use Rattle.file_digits.proofs.Bytes.{Below, none, more, below_append, below_take, below_drop, bytes_long, bytes_small}
use Rattle.file_put.specs.Put.{four, digits_of}
use Rattle.file_put.proofs.Puts.{four_long}
use Rattle.file_put.proofs.Round.{piece}
use Rattle.file_mask.specs.Mask.{mask_bytes, mask_limit, bit_of, Bits, mask_of, bits_of, above_bits, number_from, mask_in, eight}

-- ---- the bit of a mark
pub bit_plain : (x : ℕ) → x ≡ 0 → bit_of x ≡ 0
bit_plain x h = rw (eq-eqb x 0 h)

pub bit_pocket : (x : ℕ) → (x ≡ 0 → ⊥) → bit_of x ≡ 1
bit_pocket x h = rw (ne_eqb x 0 h)

pub bit_most : (x : ℕ) → bit_of x ≤ 1
bit_most x = go (eqb x 0)
  where
    go : (b : Bool) → cond b 0 1 ≤ 1
    go true = zero-le
    go false = omega arith

pub bit_same : (x : ℕ) → x ≤ 1 → bit_of x ≡ x
bit_same zero h = refl
bit_same (suc x) h =
    let e : x ≡ 0 = omega arith in
    rw e refl

pub bit_bit : (x : ℕ) → bit_of (bit_of x) ≡ bit_of x
bit_bit x = bit_same (bit_of x) (bit_most x)

pub bit_none : (x : ℕ) → bit_of x ≡ 0 → x ≡ 0
bit_none x h = go (eqb x 0) refl
  where
    go : (b : Bool) → eqb x 0 ≡ b → x ≡ 0
    go true e = eqb-true x 0 e
    go false e = absurd (omega (arith, h, bit_pocket x (eqb-false x 0 e)))

-- ---- a mask is as wide as its marks are many
unfoldable two_to : ℕ → ℕ
two_to zero = 1
two_to (suc n) = 2 * two_to n

two_mono : (n k : ℕ) → two_to n ≤ two_to (k + n)
unfolding two_to
two_mono n zero = let e : 0 + n ≡ n = omega arith in rw e (omega arith)
two_mono n (suc k) =
    let e : suc k + n ≡ suc (k + n) = omega arith in
    let h = two_mono n k in
    rw e (omega (arith, h))

mask_below : (l : List ℕ) → mask_of l < two_to (length l)
unfolding mask_of two_to
mask_below [] = omega arith
mask_below (x ∷ l) = omega (arith, bit_most x, mask_below l)

limit_two : two_to count_limit ≡ mask_limit
unfolding two_to
limit_two = refl

pub mask_small : (l : List ℕ) → length l ≤ count_limit → mask_of l < mask_limit
mask_small l h =
    let e : count_limit - length l + length l ≡ count_limit = omega arith in
    let t = two_mono (length l) (count_limit - length l) in
    let u : two_to (length l) ≤ two_to count_limit = rw e at t in
    omega (arith, mask_below l, u, limit_two)

-- ---- marks, to a mask and back
pub bits_long : (m n : ℕ) → length (bits_of m n) ≡ n
unfolding bits_of
bits_long m zero = refl
bits_long m (suc n) = ap suc (bits_long (m / 2) n)

bits_at_most : (m n p : ℕ) → get_or (bits_of m n) p 0 ≤ 1
unfolding bits_of
bits_at_most m zero p = zero-le
bits_at_most m (suc n) zero = omega arith
bits_at_most m (suc n) (suc p) = bits_at_most (m / 2) n p

pub bits_small : (m n : ℕ) → Bits (bits_of m n)
bits_small m n = record { at = bits_at_most m n }

pub bits_none : (n p : ℕ) → get_or (bits_of 0 n) p 0 ≡ 0
unfolding bits_of
bits_none zero p = refl
bits_none (suc n) zero = refl
bits_none (suc n) (suc p) = bits_none n p

pub bits_of_mask : (marks : List ℕ) → bits_of (mask_of marks) (length marks) ≡ map bit_of marks
unfolding bits_of mask_of
bits_of_mask [] = refl
bits_of_mask (x ∷ xs) =
    let a : (bit_of x + 2 * mask_of xs) % 2 ≡ bit_of x = omega (arith, bit_most x) in
    let b : (bit_of x + 2 * mask_of xs) / 2 ≡ mask_of xs = omega (arith, bit_most x) in
    rw (a, b, bits_of_mask xs)

pub mask_above : (marks : List ℕ) → above_bits (mask_of marks) (length marks) ≡ 0
unfolding above_bits mask_of
mask_above [] = refl
mask_above (x ∷ xs) =
    let b : (bit_of x + 2 * mask_of xs) / 2 ≡ mask_of xs = omega (arith, bit_most x) in
    ap (λ (m : ℕ). above_bits m (length xs)) b ∙ mask_above xs

pub mask_of_bits : (m n : ℕ) → above_bits m n ≡ 0 → mask_of (bits_of m n) ≡ m
unfolding above_bits mask_of bits_of
mask_of_bits m zero h = sym h
mask_of_bits m (suc n) h =
    let e = mask_of_bits (m / 2) n h in
    let b = bit_same (m % 2) (omega arith) in
    omega (arith, e, b)

-- ---- no pocket: no bit
plain_each : (l : List ℕ) → mask_of l ≡ 0 → (p : ℕ) → get_or l p 0 ≡ 0
unfolding mask_of
plain_each [] h p = refl
plain_each (x ∷ l) h zero = bit_none x (omega arith)
plain_each (x ∷ l) h (suc p) = plain_each l (omega arith) p

plain_all : (l : List ℕ) → ((p : ℕ) → get_or l p 0 ≡ 0) → mask_of l ≡ 0
unfolding mask_of
plain_all [] h = refl
plain_all (x ∷ l) h =
    let e = plain_all l (λ p. h (suc p)) in
    omega (arith, bit_plain x (h 0), e)

pub mask_none : (marks : List ℕ) → mask_of marks ≡ 0 ↔ ((p : ℕ) → get_or marks p 0 ≡ 0)
mask_none marks = (plain_each marks, plain_all marks)

-- ---- "any other pocket, all alike; the file reader gives 1"
pub mask_filed : (marks : List ℕ) → mask_of (map bit_of marks) ≡ mask_of marks
unfolding mask_of
mask_filed [] = refl
mask_filed (x ∷ xs) = rw (bit_bit x, mask_filed xs)

pub bits_filed : (marks : List ℕ) → Bits (map bit_of marks)
bits_filed marks = record { at = λ p. rw (get_or-map bit_of marks p 0) (bit_most (get_or marks p 0)) }

pub bits_as_they_are : (marks : List ℕ) → Bits marks → map bit_of marks ≡ marks
bits_as_they_are [] b = refl
bits_as_they_are (x ∷ xs) b = rw (bit_same x (b.at 0), bits_as_they_are xs (record { at = λ p. b.at (suc p) }))

-- ---- a number of eight bytes, there and back
number_then : (n : ℕ) (a b : List ℕ) → number_from n (a ++ b) ≡ number_from (number_from n a) b
unfolding number_from
number_then n [] b = refl
number_then n (x ∷ a) b = number_then (n * 256 + x) a b

number_four : (k n : ℕ) → n < 4294967296 → number_from k (four n) ≡ k * 4294967296 + n
unfolding number_from four
number_four k n h =
    let a : n / 256 * 256 + n % 256 ≡ n = omega arith in
    let b : n / 65536 * 256 + n / 256 % 256 ≡ n / 256 = omega arith in
    let c : n / 16777216 * 256 + n / 65536 % 256 ≡ n / 65536 = omega arith in
    let d : n / 16777216 % 256 ≡ n / 16777216 = omega arith in
    omega (arith, a, b, c, d)

pub number_eight : (n : ℕ) → n < mask_limit → number_from 0 (eight n) ≡ n
unfolding eight
number_eight n h =
    let a : number_from 0 (four (n / 4294967296)) ≡ n / 4294967296 = omega (arith, number_four 0 (n / 4294967296) (omega arith)) in
    let b = number_four (n / 4294967296) (n % 4294967296) (omega arith) in
    let e : n / 4294967296 * 4294967296 + n % 4294967296 ≡ n = omega arith in
    rw (number_then 0 (four (n / 4294967296)) (four (n % 4294967296)), a) (b ∙ e)

four_number : (l : List ℕ) → length l ≡ 4 → Below 256 l → (four (number_from 0 l) ≡ l) × (number_from 0 l < 4294967296)
unfolding number_from four
four_number [] e w = absurd (omega arith)
four_number (a ∷ []) e w = absurd (omega arith)
four_number (a ∷ b ∷ []) e w = absurd (omega arith)
four_number (a ∷ b ∷ c ∷ []) e w = absurd (omega arith)
four_number (a ∷ b ∷ c ∷ d ∷ x ∷ l) e w = absurd (omega arith)
four_number (a ∷ b ∷ c ∷ d ∷ []) e (more i (more j (more k (more l none)))) =
    let n : ℕ = (((0 * 256 + a) * 256 + b) * 256 + c) * 256 + d in
    let u : n / 16777216 % 256 ≡ a = omega arith in
    let v : n / 65536 % 256 ≡ b = omega arith in
    let x : n / 256 % 256 ≡ c = omega arith in
    let y : n % 256 ≡ d = omega arith in
    (rw (u, v, x, y), omega arith)

-- bytes behind a number that is there already
number_from_lem : (k : ℕ) (l : List ℕ) → length l ≡ 4 → number_from k l ≡ k * 4294967296 + number_from 0 l
unfolding number_from
number_from_lem k [] e = absurd (omega arith)
number_from_lem k (a ∷ []) e = absurd (omega arith)
number_from_lem k (a ∷ b ∷ []) e = absurd (omega arith)
number_from_lem k (a ∷ b ∷ c ∷ []) e = absurd (omega arith)
number_from_lem k (a ∷ b ∷ c ∷ d ∷ x ∷ l) e = absurd (omega arith)
number_from_lem k (a ∷ b ∷ c ∷ d ∷ []) e = omega arith

pub eight_number : (l : List ℕ) → length l ≡ mask_bytes → Below 256 l → eight (number_from 0 l) ≡ l
unfolding eight
eight_number l e w =
    let h : length (take 4 l) ≡ 4 = length-take-le 4 l (omega arith) in
    let k : length (drop 4 l) ≡ 4 = omega (arith, length-drop 4 l) in
    let f = four_number (take 4 l) h (below_take 4 l w) in
    let g = four_number (drop 4 l) k (below_drop 4 l w) in
    let s = take-append-drop 4 l in
    let n : number_from 0 l ≡ number_from 0 (take 4 l) * 4294967296 + number_from 0 (drop 4 l) =
    ap (number_from 0) (sym s) ∙ number_then 0 (take 4 l) (drop 4 l) ∙ number_from_lem (number_from 0 (take 4 l)) (drop 4 l) k
    in
    let a : number_from 0 l / 4294967296 ≡ number_from 0 (take 4 l) = omega (arith, n, g.1) in
    let b : number_from 0 l % 4294967296 ≡ number_from 0 (drop 4 l) = omega (arith, n, g.1) in
    rw (a, b, f.0, g.0) s

pub eight_long : (n : ℕ) → length (eight n) ≡ mask_bytes
unfolding eight
eight_long n = omega (arith, length-append (four (n / 4294967296)) (four (n % 4294967296)), four_long (n / 4294967296), four_long (n % 4294967296))

four_small : (n : ℕ) → Below 256 (four n)
unfolding four
four_small n =
    more {x = n / 16777216 % 256} (omega arith) (more {x = n / 65536 % 256} (omega arith) (more {x = n / 256 % 256} (omega arith) (more {x = n % 256} (omega arith) none)))

pub eight_small : (n : ℕ) → Below 256 (eight n)
unfolding eight
eight_small n = below_append (four (n / 4294967296)) (four (n % 4294967296)) (four_small (n / 4294967296)) (four_small (n % 4294967296))

-- ---- the mask of a frame 06: of one that was written, and of one that was read
pub mask_bytes_lem : (n : ℕ) → bytes_from (digits_of (6 ∷ eight n)) 1 mask_bytes ≡ eight n
mask_bytes_lem n =
    let b : Below 256 ((6 ∷ []) ++ (eight n ++ [])) = more {x = 6} (omega arith) (below_append (eight n) [] (eight_small n) none) in
    let p : bytes_from (digits_of (6 ∷ (eight n ++ []))) 1 (length (eight n)) ≡ eight n = piece (6 ∷ []) (eight n) [] b in
    let q : bytes_from (digits_of (6 ∷ eight n)) 1 (length (eight n)) ≡ eight n = rw append-nil at p in
    rw (eight_long n) at q

pub mask_digits : (n : ℕ) → n < mask_limit → mask_in (digits_of (6 ∷ eight n)) ≡ n
mask_digits n h = ap (number_from 0) (mask_bytes_lem n) ∙ number_eight n h

pub digits_mask : (d : List ℕ) → bytes_from d 1 mask_bytes ≡ eight (mask_in d)
digits_mask d = sym (eight_number (bytes_from d 1 mask_bytes) (bytes_long d 1 mask_bytes) (bytes_small d 1 mask_bytes))

-- ---- "place 0 the lowest bit of the last byte": bit p of a mask is bit p % 8 of byte 7 - p / 8 of its eight
pub above_both : (m a b : ℕ) → above_bits m (a + b) ≡ above_bits (above_bits m a) b
unfolding above_bits
above_both m zero b = ap (above_bits m) (zero-add b)
above_both m (suc a) b = ap (above_bits m) (suc-add a b) ∙ above_both (m / 2) a b

-- bit p is the mark of place p
pub bits_at : (m n p : ℕ) → p < n → get_or (bits_of m n) p 0 ≡ above_bits m p % 2
unfolding bits_of above_bits
bits_at m zero p h = absurd (not-suc-le-zero h)
bits_at m (suc n) zero h = refl
bits_at m (suc n) (suc p) h = bits_at (m / 2) n p (omega arith)

-- without its j last bytes
unfoldable above_bytes : ℕ → ℕ → ℕ
above_bytes m zero = m
above_bytes m (suc j) = above_bytes (m / 256) j

above_bytes_lem : (m j : ℕ) → above_bits m (8 * j) ≡ above_bytes m j
unfolding above_bits above_bytes
above_bytes_lem m zero = refl
above_bytes_lem m (suc j) =
    let e : 8 * suc j ≡ 8 + 8 * j = omega arith in
    let f : m / 2 / 2 / 2 / 2 / 2 / 2 / 2 / 2 ≡ m / 256 = omega arith in
    ap (above_bits m) e ∙ above_both m 8 (8 * j) ∙ ap (λ (k : ℕ). above_bits k (8 * j)) f ∙ above_bytes_lem (m / 256) j

last_byte : (m q : ℕ) → q < 8 → above_bits (m % 256) q % 2 ≡ above_bits m q % 2
unfolding above_bits
last_byte m zero h = omega arith
last_byte m (suc zero) h = omega arith
last_byte m (suc (suc zero)) h = omega arith
last_byte m (suc (suc (suc zero))) h = omega arith
last_byte m (suc (suc (suc (suc zero)))) h = omega arith
last_byte m (suc (suc (suc (suc (suc zero))))) h = omega arith
last_byte m (suc (suc (suc (suc (suc (suc zero)))))) h = omega arith
last_byte m (suc (suc (suc (suc (suc (suc (suc zero))))))) h = omega arith
last_byte m (suc (suc (suc (suc (suc (suc (suc (suc q)))))))) h = absurd (omega arith)

eight_at : (n j : ℕ) → n < mask_limit → j < mask_bytes → get_or (eight n) (7 - j) 0 ≡ above_bytes n j % 256
unfolding eight four above_bytes
eight_at n zero l h = omega arith
eight_at n (suc zero) l h = omega arith
eight_at n (suc (suc zero)) l h = omega arith
eight_at n (suc (suc (suc zero))) l h = omega arith
eight_at n (suc (suc (suc (suc zero)))) l h = omega arith
eight_at n (suc (suc (suc (suc (suc zero))))) l h = omega arith
eight_at n (suc (suc (suc (suc (suc (suc zero)))))) l h = omega arith
eight_at n (suc (suc (suc (suc (suc (suc (suc zero))))))) l h = omega arith
eight_at n (suc (suc (suc (suc (suc (suc (suc (suc j)))))))) l h = absurd (omega arith)

pub bit_place : (n p : ℕ) → n < mask_limit → p < 8 * mask_bytes → above_bits n p % 2 ≡ above_bits (get_or (eight n) (7 - p / 8) 0) (p % 8) % 2
bit_place n p l h =
    let e : p ≡ 8 * (p / 8) + p % 8 = omega arith in
    let a : above_bits n p ≡ above_bits (above_bytes n (p / 8)) (p % 8) =
    ap (above_bits n) e ∙ above_both n (8 * (p / 8)) (p % 8) ∙ ap (λ (k : ℕ). above_bits k (p % 8)) (above_bytes_lem n (p / 8))
    in
    ap (λ (k : ℕ). k % 2) a
    ∙ sym (last_byte (above_bytes n (p / 8)) (p % 8) (omega arith))
    ∙ ap (λ (k : ℕ). above_bits k (p % 8) % 2) (sym (eight_at n (p / 8) l (omega arith)))

-- and so the mark of place p is there in the bytes
pub mark_place : (marks : List ℕ) (p : ℕ) → length marks ≤ count_limit → p < length marks
    → bit_of (get_or marks p 0) ≡ above_bits (get_or (eight (mask_of marks)) (7 - p / 8) 0) (p % 8) % 2
mark_place marks p l h =
    sym (get_or-map bit_of marks p 0)
    ∙ ap (λ (bits : List ℕ). get_or bits p 0) (sym (bits_of_mask marks))
    ∙ bits_at (mask_of marks) (length marks) p h
    ∙ bit_place (mask_of marks) p (mask_small marks l) (omega arith)
