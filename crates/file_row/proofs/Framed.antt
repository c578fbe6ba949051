-- The frame of a transition there and back: written and read it gives the rows, read and written the digits. Assumes nothing.
use mathlib.Core.Path.{◌≡◌, refl, sym, ◌∙◌, ap}
use mathlib.Core.Bool.{true}
use mathlib.Core.List.{List, [], ◌∷◌, ◌++◌, append-nil}
use Prim.Native.Nat.{ℕ, suc, ◌+◌, ◌*◌, ◌<◌}
use native.Mathlib.Omega.{arith}
use lib.ListN.{length, length-append}
use Rattle.file_digits.specs.Frame.{all_digits, byte_at, bytes_from}
use Rattle.file_digits.proofs.Bytes.{Below, none, more, below_append, bytes_split}
use Rattle.file_put.specs.Put.{digits_of}
use Rattle.file_put.proofs.Round.{canon, byte_digits}
use Rattle.file_row.specs.Row.{weight_bytes, row_kind, weights_text, row_frame, takes_in, puts_in}
use Rattle.file_row.proofs.Weights.{text_long, text_small, text_from, from_text}
use Rattle.file_row.proofs.Narrow.{kind_small, takes_fit, puts_fit}

-- a frame's bytes, and its digits
pub frame_long : (t P : ℕ) (takes puts : List ℕ) → length takes ≡ P → length puts ≡ P → length (row_frame t takes puts) ≡ 2 + 2 * (weight_bytes (row_kind takes puts) * P)
frame_long t P takes puts la lb =
    let k = row_kind takes puts in
    let a : length (weights_text k takes) ≡ weight_bytes k * P = text_long k takes ∙ ap (λ (n : ℕ). weight_bytes k * n) la in
    let b : length (weights_text k puts) ≡ weight_bytes k * P = text_long k puts ∙ ap (λ (n : ℕ). weight_bytes k * n) lb in
    omega (arith, length-append (weights_text k takes) (weights_text k puts))

module _ (t P : ℕ) (takes puts : List ℕ) (h : t < 256) (la : length takes ≡ P) (lb : length puts ≡ P) (wa : Below 65536 takes) (wb : Below 65536 puts) where
  text_a : Below 256 (weights_text (row_kind takes puts) takes)
  text_a = text_small (row_kind takes puts) takes wa (takes_fit takes puts)

  text_b : Below 256 (weights_text (row_kind takes puts) puts)
  text_b = text_small (row_kind takes puts) puts wb (puts_fit takes puts (lb ∙ sym la))

  pub frame_small : Below 256 (row_frame t takes puts)
  frame_small = more (kind_small takes puts) (more h (below_append (weights_text (row_kind takes puts) takes) (weights_text (row_kind takes puts) puts) text_a text_b))

  -- read again: its kind, its transition and its rows
  pub kind_back : byte_at (digits_of (row_frame t takes puts)) 0 ≡ row_kind takes puts
  kind_back = byte_digits (row_frame t takes puts) 0 frame_small (omega arith)

  pub index_back : byte_at (digits_of (row_frame t takes puts)) 1 ≡ t
  index_back = byte_digits (row_frame t takes puts) 1 frame_small (omega arith)

  pub takes_back : takes_in (row_kind takes puts) (digits_of (row_frame t takes puts)) P ≡ takes
  takes_back =
      rw la at (from_text (row_kind takes puts) (row_kind takes puts ∷ t ∷ []) takes (weights_text (row_kind takes puts) puts) (more (kind_small takes puts) (more h none)) wa (takes_fit takes puts) text_b)

  pub puts_back : puts_in (row_kind takes puts) (digits_of (row_frame t takes puts)) P ≡ puts
  puts_back =
      let k = row_kind takes puts in
      let i : suc (suc (length (weights_text k takes))) ≡ 2 + weight_bytes k * P = let e = text_long k takes ∙ ap (λ (n : ℕ). weight_bytes k * n) la in omega arith in
      rw (append-nil, i, lb) at (from_text k (k ∷ t ∷ weights_text k takes) puts [] (more (kind_small takes puts) (more h text_a)) wb (puts_fit takes puts (lb ∙ sym la)) none)

-- the digits of a frame of kind k, whose rows are those of that kind, are those of the frame of its rows
pub frame_canon : (k t P : ℕ) (d : List ℕ) → all_digits d ≡ true → length d ≡ 4 + 4 * (weight_bytes k * P) → byte_at d 0 ≡ k → byte_at d 1 ≡ t
    → row_kind (takes_in k d P) (puts_in k d P) ≡ k → d ≡ digits_of (row_frame t (takes_in k d P) (puts_in k d P))
unfolding bytes_from
frame_canon k t P d all l e f q =
    let n : ℕ = weight_bytes k * P in
    let two : bytes_from d 0 2 ++ bytes_from d 2 (n + n) ≡ byte_at d 0 ∷ byte_at d 1 ∷ bytes_from d 2 (n + n) = refl in
    let rows : bytes_from d 2 (n + n) ≡ weights_text k (takes_in k d P) ++ weights_text k (puts_in k d P) = rw (text_from k d 2 P, text_from k d (2 + n) P) (bytes_split d 2 n n) in
    sym (canon (2 + (n + n)) d (omega arith) all) ∙ ap digits_of (bytes_split d 0 2 (n + n) ∙ two ∙ rw (e, f, rows, q))
