-- Numbers of two bytes there and back. Assumes nothing.
use mathlib.Core.Path.{◌≡◌, refl, sym, ◌∙◌, ap}
use mathlib.Core.List.{List, [], ◌∷◌, ◌++◌, append-nil}
use Prim.Native.Nat.{ℕ, zero, suc, ◌+◌, ◌*◌, ◌/◌, ◌%◌, ◌<◌}
use native.Mathlib.Omega.{arith}
use lib.ListN.{length}
use Rattle.file_digits.specs.Frame.{byte_at, bytes_from, words_from}
use Rattle.file_digits.proofs.Bytes.{Below, none, more, below_append, byte_small, words_long}
use Rattle.file_put.specs.Put.{digits_of, two, twos}
use Rattle.file_put.proofs.Round.{piece}

-- numbers one after another are their bytes one after another
pub twos_then : (a b : List ℕ) → twos (a ++ b) ≡ twos a ++ twos b
unfolding twos
twos_then [] b = refl
twos_then (n ∷ a) b = ap (λ (z : List ℕ). n / 256 ∷ n % 256 ∷ z) (twos_then a b)

pub twos_one : (n : ℕ) → twos (n ∷ []) ≡ two n
unfolding twos two
twos_one n = refl

pub twos_long : (l : List ℕ) → length (twos l) ≡ 2 * length l
unfolding twos
twos_long [] = refl
twos_long (n ∷ l) = let e = twos_long l in omega (arith, e)

pub twos_small : (l : List ℕ) → Below 65536 l → Below 256 (twos l)
unfolding twos
twos_small [] none = none
twos_small (n ∷ l) (more h w) = more {x = n / 256} (omega arith) (more {x = n % 256} (omega arith) (twos_small l w))

pub twos_apart : (a b : List ℕ) → length a ≡ length b → twos a ≡ twos b → a ≡ b
unfolding twos
twos_apart [] [] h e = refl
twos_apart [] (y ∷ b) h e = absurd (omega arith)
twos_apart (x ∷ a) [] h e = absurd (omega arith)
twos_apart (x ∷ a) (y ∷ b) h e =
    let p : x / 256 ≡ y / 256 = cc in
    let q : x % 256 ≡ y % 256 = cc in
    let r : twos a ≡ twos b = cc in
    let s : x ≡ y = omega arith in
    let t : a ≡ b = twos_apart a b (omega arith) r in
    ap (λ (z : ℕ). z ∷ a) s ∙ ap (λ (z : List ℕ). y ∷ z) t

pub words_bytes : (d : List ℕ) (i n : ℕ) → twos (words_from d i n) ≡ bytes_from d i (2 * n)
unfolding twos words_from bytes_from
words_bytes d i zero = refl
words_bytes d i (suc n) =
    let e : 2 * suc n ≡ suc (suc (2 * n)) = omega arith in
    let j : i + 1 + 1 ≡ i + 2 = omega arith in
    let h : (byte_at d i * 256 + byte_at d (i + 1)) / 256 ≡ byte_at d i = omega (arith, byte_small d (i + 1)) in
    let l : (byte_at d i * 256 + byte_at d (i + 1)) % 256 ≡ byte_at d (i + 1) = omega (arith, byte_small d (i + 1)) in
    rw (e, h, l, j, words_bytes d (i + 2) n)

-- the numbers of a frame of kind k, read back
pub words_digits : (k n : ℕ) (l : List ℕ) → k < 256 → Below 65536 l → length l ≡ n → words_from (digits_of (k ∷ twos l)) 1 n ≡ l
words_digits k n l h w e =
    let m : length (twos l) ≡ 2 * n = rw (← e) (twos_long l) in
    let b : Below 256 ((k ∷ []) ++ (twos l ++ [])) = more h (below_append (twos l) [] (twos_small l w) none) in
    let p : bytes_from (digits_of (k ∷ (twos l ++ []))) 1 (length (twos l)) ≡ twos l = piece (k ∷ []) (twos l) [] b in
    let q : bytes_from (digits_of (k ∷ twos l)) 1 (2 * n) ≡ twos l = rw (← m) (rw append-nil at p) in
    twos_apart (words_from (digits_of (k ∷ twos l)) 1 n) l (words_long (digits_of (k ∷ twos l)) 1 n ∙ sym e) (words_bytes (digits_of (k ∷ twos l)) 1 n ∙ q)
