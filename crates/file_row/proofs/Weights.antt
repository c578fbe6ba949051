-- Laws of a row of weights in a frame: how many; read from digits, written as bytes, and back. Assumes nothing.
use mathlib.Core.Path.{◌≡◌, refl, sym, ◌∙◌, ap}
use mathlib.Core.Bool.{Bool, true, false, cond}
use mathlib.Core.List.{List, [], ◌∷◌, ◌++◌}
use Prim.Native.Nat.{ℕ, ◌+◌, ◌*◌}
use native.Mathlib.Omega.{arith}
use native.Mathlib.Numerals.{add-one}
use native.Mathlib.Nat.{one-mul}
use lib.ListN.{length, set}
use lib.Dec.{eqb}
use lib.Seq.{sets}
use Rattle.file_digits.specs.Frame.{byte_at, word_at, bytes_from, words_from}
use Rattle.file_digits.proofs.Bytes.{Below, below_of, below_append, bytes_long, bytes_split, words_long, words_more, stored_next}
use Rattle.file_put.specs.Put.{digits_of, twos}
use Rattle.file_put.proofs.Round.{piece}
use Rattle.file_put.proofs.Twos.{twos_long, twos_small, twos_apart, words_bytes}
use Rattle.file_row.specs.Row.{wide_row, weight_bytes, weights_text, weights_from}
use Rattle.file_row.specs.Walk.{weight_at, Fit}

module _ (k : ℕ) where
  -- as many as asked for
  pub from_long : (d : List ℕ) (i n : ℕ) → length (weights_from k d i n) ≡ n
  unfolding weights_from
  from_long d i n = go (eqb k wide_row)
    where
      go : (b : Bool) → length (cond b (words_from d i n) (bytes_from d i n)) ≡ n
      go true = words_long d i n
      go false = bytes_long d i n

  -- the bytes of a row: how many, and each is one
  pub text_long : (l : List ℕ) → length (weights_text k l) ≡ weight_bytes k * length l
  unfolding weights_text
  text_long l = go (eqb k wide_row)
    where
      go : (b : Bool) → length (cond b (twos l) l) ≡ cond b 2 1 * length l
      go true = twos_long l
      go false = omega arith

  pub text_small : (l : List ℕ) → Below 65536 l → Fit k l → Below 256 (weights_text k l)
  unfolding weights_text
  text_small l w f = go (eqb k wide_row) refl
    where
      go : (b : Bool) → eqb k wide_row ≡ b → Below 256 (cond b (twos l) l)
      go true e = twos_small l w
      go false e = below_of 256 l (λ p h. omega (arith, f.narrow e p h))

  -- read and written again, they are the frame's bytes
  pub text_from : (d : List ℕ) (i n : ℕ) → weights_text k (weights_from k d i n) ≡ bytes_from d i (weight_bytes k * n)
  unfolding weights_text weights_from
  text_from d i n = go (eqb k wide_row)
    where
      go : (b : Bool) → cond b (twos (cond b (words_from d i n) (bytes_from d i n))) (cond b (words_from d i n) (bytes_from d i n)) ≡ bytes_from d i (cond b 2 1 * n)
      go true = words_bytes d i n
      go false = ap (bytes_from d i) (sym (one-mul n))

  -- other rows have other bytes
  pub text_apart : (a b : List ℕ) → length a ≡ length b → weights_text k a ≡ weights_text k b → a ≡ b
  unfolding weights_text
  text_apart a b h = go (eqb k wide_row)
    where
      go : (c : Bool) → cond c (twos a) a ≡ cond c (twos b) b → a ≡ b
      go true e = twos_apart a b h e
      go false e = e

  -- written between other bytes and read again, they are the row
  pub from_text : (a l c : List ℕ) → Below 256 a → Below 65536 l → Fit k l → Below 256 c
      → weights_from k (digits_of (a ++ (weights_text k l ++ c))) (length a) (length l) ≡ l
  from_text a l c x w f z =
      let d : List ℕ = digits_of (a ++ (weights_text k l ++ c)) in
      let b : Below 256 (a ++ (weights_text k l ++ c)) = below_append a (weights_text k l ++ c) x (below_append (weights_text k l) c (text_small l w f) z) in
      text_apart (weights_from k d (length a) (length l)) l (from_long d (length a) (length l))
      (text_from d (length a) (length l) ∙ ap (bytes_from d (length a)) (sym (text_long l)) ∙ piece a (weights_text k l) c b)

  -- one weight more
  from_more : (d : List ℕ) (i n : ℕ) → weights_from k d i (n + 1) ≡ weights_from k d i n ++ (weight_at k d (i + weight_bytes k * n) ∷ [])
  unfolding weights_from weight_at bytes_from
  from_more d i n = go (eqb k wide_row)
    where
      go : (b : Bool) → cond b (words_from d i (n + 1)) (bytes_from d i (n + 1)) ≡ cond b (words_from d i n) (bytes_from d i n) ++ (cond b (word_at d (i + cond b 2 1 * n)) (byte_at d (i + cond b 2 1 * n)) ∷ [])
      go true = rw (add-one n) (words_more d i n)
      go false = rw (one-mul n) (bytes_split d i n 1)

  -- a turn of a store of weights
  pub weights_next : (room d l : List ℕ) (at i n x : ℕ) → l ≡ sets room at (weights_from k d i n) → x ≡ weight_at k d (i + weight_bytes k * n) → set l (at + n) x ≡ sets room at (weights_from k d i (n + 1))
  weights_next room d l at i n x e h = stored_next room (weights_from k d i n) (weights_from k d i (n + 1)) l at n x e (from_long d i n) (rw h (from_more d i n))

  pub weights_none : (room d : List ℕ) (at i : ℕ) → room ≡ sets room at (weights_from k d i 0)
  unfolding weights_from words_from bytes_from
  weights_none room d at i = go (eqb k wide_row)
    where
      go : (b : Bool) → room ≡ sets room at (cond b (words_from d i 0) (bytes_from d i 0))
      go true = refl
      go false = refl

-- a turn of a store of weights of two bytes each
pub wide_next : (room d l : List ℕ) (at i n x : ℕ) → l ≡ sets room at (words_from d i n) → x ≡ word_at d (i + 2 * n) → set l (at + n) x ≡ sets room at (words_from d i (n + 1))
wide_next room d l at i n x e h = stored_next room (words_from d i n) (words_from d i (n + 1)) l at n x e (words_long d i n) (rw (add-one n, h) (words_more d i n))
