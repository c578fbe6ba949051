-- Bytes and numbers of two bytes as read: entries below a bound, how many, which. Assumes nothing.
use mathlib.Core.Path.{◌≡◌, refl, ap}
use mathlib.Core.Bool.{Bool, true, false}
use mathlib.Core.List.{List, [], ◌∷◌, ◌++◌}
use Prim.Native.Nat.{ℕ, zero, suc, ◌+◌, ◌*◌, ◌≤◌, ◌<◌, zero-le}
use native.Mathlib.Omega.{arith}
use native.Mathlib.Numerals.{add-one}
use native.Mathlib.Nat.{not-suc-le-zero, zero-add, suc-add}
use native.Mathlib.Decide.{dec_lt}
use lib.Dec.{leb}
use lib.ListN.{length, set, take, drop, get_or, get_or-eq_default}
use lib.Seq.{sets}
use borrow.Author.Tests.{leb-true, leb-false}
use Rattle.ground.proofs.Stores.{sets_both}
use Rattle.file_digits.specs.Frame.{value_of, byte_at, word_at, bytes_from, words_from}
use Rattle.file_digits.proofs.Frames.{low, num, mid, letter, high}

-- every entry is below n
pub data Below (n : ℕ) : List ℕ → Type 0 where
  none : Below n []
  more : {x : ℕ} {xs : List ℕ} → x < n → Below n xs → Below n (x ∷ xs)

-- entries below a bound, one by one and together
pub below_of : (n : ℕ) (l : List ℕ) → ((k : ℕ) → k < length l → get_or l k 0 < n) → Below n l
below_of n [] h = none
below_of n (x ∷ l) h = more (h zero (omega arith)) (below_of n l (λ k b. h (suc k) (omega arith)))

pub of_below : (n : ℕ) (l : List ℕ) (k : ℕ) → Below n l → k < length l → get_or l k 0 < n
of_below n [] k w h = absurd (not-suc-le-zero h)
of_below n (x ∷ l) zero (more b w) h = b
of_below n (x ∷ l) (suc k) (more b w) h = of_below n l k w (omega arith)

pub below_most : (n : ℕ) (l : List ℕ) (k : ℕ) → Below (suc n) l → get_or l k 0 ≤ n
below_most n l k w = go (dec_lt k (length l)) where
  go : Dec (k < length l) → get_or l k 0 ≤ n
  go (yes h) = let z = of_below (suc n) l k w h in omega (arith, z)
  go (no h) = rw (get_or-eq_default l 0 {n = k} (omega arith)) zero-le

pub below_more : {m : ℕ} (n : ℕ) (l : List ℕ) → m ≤ n → Below m l → Below n l
below_more n [] h none = none
below_more n (x ∷ l) h (more b w) = more {x = x} (omega arith) (below_more n l h w)

pub below_append : {n : ℕ} (a b : List ℕ) → Below n a → Below n b → Below n (a ++ b)
below_append [] b none v = v
below_append (x ∷ a) b (more h w) v = more h (below_append a b w v)

pub below_take : {n : ℕ} (i : ℕ) (l : List ℕ) → Below n l → Below n (take i l)
below_take zero l w = none
below_take (suc i) [] w = none
below_take (suc i) (x ∷ l) (more h w) = more h (below_take i l w)

pub below_drop : {n : ℕ} (i : ℕ) (l : List ℕ) → Below n l → Below n (drop i l)
below_drop zero l w = w
below_drop (suc i) [] w = none
below_drop (suc i) (x ∷ l) (more h w) = below_drop i l w

-- a frame's bytes, as many as asked for, and in two pieces
pub bytes_long : (d : List ℕ) (i n : ℕ) → length (bytes_from d i n) ≡ n
unfolding bytes_from
bytes_long d i zero = refl
bytes_long d i (suc n) = ap suc (bytes_long d (i + 1) n)

pub bytes_split : (d : List ℕ) (i m n : ℕ) → bytes_from d i (m + n) ≡ bytes_from d i m ++ bytes_from d (i + m) n
unfolding bytes_from
bytes_split d i zero n =
    let e : i + 0 ≡ i = omega arith in
    rw (zero-add n, e)
bytes_split d i (suc m) n =
    let e : i + suc m ≡ i + 1 + m = omega arith in
    rw (suc-add m n, e, bytes_split d (i + 1) m n)

pub words_long : (d : List ℕ) (i n : ℕ) → length (words_from d i n) ≡ n
unfolding words_from
words_long d i zero = refl
words_long d i (suc n) = ap suc (words_long d (i + 2) n)

pub words_more : (d : List ℕ) (i n : ℕ) → words_from d i (suc n) ≡ words_from d i n ++ (word_at d (i + 2 * n) ∷ [])
unfolding words_from
words_more d i zero = let e : i + 2 * 0 ≡ i = omega arith in rw e
words_more d i (suc n) =
    let e : i + 2 * suc n ≡ i + 2 + 2 * n = omega arith in
    rw e (ap (λ (l : List ℕ). word_at d i ∷ l) (words_more d (i + 2) n))

-- a list stored so far, and one entry more
pub stored_next : (room xs ys l : List ℕ) (at k x : ℕ) → l ≡ sets room at xs → length xs ≡ k → ys ≡ xs ++ (x ∷ []) → set l (at + k) x ≡ sets room at ys
stored_next room xs ys l at k x e h f = rw (e, f, ← h) (sets_both xs (x ∷ []) room at)

-- a turn of a store of bytes, and of numbers
pub bytes_next : (room d l : List ℕ) (at i k x : ℕ) → l ≡ sets room at (bytes_from d i k) → x ≡ byte_at d (i + k) → set l (at + k) x ≡ sets room at (bytes_from d i (k + 1))
unfolding bytes_from
bytes_next room d l at i k x e h = stored_next room (bytes_from d i k) (bytes_from d i (k + 1)) l at k x e (bytes_long d i k) (rw h (bytes_split d i k 1))

pub words_next : (room d l : List ℕ) (i k x : ℕ) → l ≡ sets room 0 (words_from d i k) → x ≡ word_at d (i + 2 * k) → set l k x ≡ sets room 0 (words_from d i (k + 1))
words_next room d l i k x e h =
    let s = stored_next room (words_from d i k) (words_from d i (k + 1)) l 0 k x e (words_long d i k) (rw (add-one k, h) (words_more d i k)) in
    rw (zero-add k) at s

-- entry k of them
pub bytes_at : (d : List ℕ) (i n k : ℕ) → k < n → get_or (bytes_from d i n) k 0 ≡ byte_at d (i + k)
unfolding bytes_from
bytes_at d i zero k h = absurd (not-suc-le-zero h)
bytes_at d i (suc n) zero h = let e : i + 0 ≡ i = omega arith in rw e
bytes_at d i (suc n) (suc k) h = let e : i + suc k ≡ i + 1 + k = omega arith in rw e (bytes_at d (i + 1) n k (omega arith))

pub words_at : (d : List ℕ) (i n k : ℕ) → k < n → get_or (words_from d i n) k 0 ≡ word_at d (i + 2 * k)
unfolding words_from
words_at d i zero k h = absurd (not-suc-le-zero h)
words_at d i (suc n) zero h = let e : i + 2 * 0 ≡ i = omega arith in rw e
words_at d i (suc n) (suc k) h = let e : i + 2 * suc k ≡ i + 2 + 2 * k = omega arith in rw e (words_at d (i + 2) n k (omega arith))

-- a byte that is read is one
value_small : (x : ℕ) → value_of x ≤ 15
value_small x = go (leb 48 x) refl (leb x 57) refl (leb 65 x) refl (leb x 70) refl where
  go : (a : Bool) → leb 48 x ≡ a → (b : Bool) → leb x 57 ≡ b → (c : Bool) → leb 65 x ≡ c → (d : Bool) → leb x 70 ≡ d → value_of x ≤ 15
  go false p b q c r d s = let v = (low x (leb-false _ _ p)).0 in omega (arith, v)
  go true p true q c r d s =
      let l : x ≤ 57 = leb-true _ _ q in
      let v = (num x (leb-true _ _ p) l).0 in
      omega (arith, v)
  go true p false q false r d s = let v = (mid x (leb-false _ _ q) (leb-false _ _ r)).0 in omega (arith, v)
  go true p false q true r false s = let v = (high x (leb-false _ _ s)).0 in omega (arith, v)
  go true p false q true r true s =
      let l : x ≤ 70 = leb-true _ _ s in
      let v = (letter x (leb-true _ _ r) l).0 in
      omega (arith, v)

pub byte_small : (d : List ℕ) (i : ℕ) → byte_at d i < 256
unfolding byte_at
byte_small d i = omega (arith, value_small (get_or d (2 * i) 0), value_small (get_or d (2 * i + 1) 0))

pub bytes_small : (d : List ℕ) (i n : ℕ) → Below 256 (bytes_from d i n)
unfolding bytes_from
bytes_small d i zero = none
bytes_small d i (suc n) = more (byte_small d i) (bytes_small d (i + 1) n)

pub words_small : (d : List ℕ) (i n : ℕ) → Below 65536 (words_from d i n)
unfolding words_from
words_small d i zero = none
words_small d i (suc n) = more {x = byte_at d i * 256 + byte_at d (i + 1)} (omega (arith, byte_small d i, byte_small d (i + 1))) (words_small d (i + 2) n)

-- a frame's bytes, one byte further in
pub byte_shift : (x y : ℕ) (d : List ℕ) (i : ℕ) → byte_at (x ∷ y ∷ d) (suc i) ≡ byte_at d i
unfolding byte_at
byte_shift x y d i =
    let e : 2 * suc i ≡ suc (suc (2 * i)) = omega arith in
    let f : 2 * suc i + 1 ≡ suc (suc (2 * i + 1)) = omega arith in
    rw (f, e)

pub bytes_shift : (x y : ℕ) (d : List ℕ) (i n : ℕ) → bytes_from (x ∷ y ∷ d) (suc i) n ≡ bytes_from d i n
unfolding bytes_from
bytes_shift x y d i zero = refl
bytes_shift x y d i (suc n) = rw (byte_shift x y d i, add-one (suc i), add-one i, bytes_shift x y d (suc i) n)

pub byte_first : (x y : ℕ) (d : List ℕ) → byte_at (x ∷ y ∷ d) 0 ≡ value_of x * 16 + value_of y
unfolding byte_at
byte_first x y d = refl
