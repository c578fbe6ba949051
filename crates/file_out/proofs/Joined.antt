-- Laws of lines put one after another: none yet, one more, all; the part of a list that a line holds, and the room for it. Assumes nothing.
use mathlib.Core.Path.{◌≡◌, sym, ◌∙◌, ap}
use mathlib.Core.List.{List, ◌∷◌, ◌++◌}
use Prim.Native.Nat.{ℕ, zero, suc, ◌+◌, ◌-◌, ◌*◌, ◌≤◌, ◌<◌, min}
use native.Mathlib.Omega.{arith}
use native.Mathlib.Numerals.{add-one}
use native.Mathlib.Nat.{not-suc-le-zero}
use native.Mathlib.Decide.{dec_le, dec_lt}
use lib.ListN.{length, take, drop, drop_of_length-le, length-append, length-take, length-drop}
use lib.Seq.{take_at, drop_at}
use Rattle.std.proofs.lemmas.List.{take_min, drop-drop}
use Rattle.ground.specs.Limits.{count_limit}
use Rattle.net.specs.Net.{Net, Sized}
use Rattle.net.specs.Letter.{row}
use Rattle.weights.proofs.Heavies.{rows_long}
use Rattle.file_digits.specs.Frame.{block}
use Rattle.file_put.specs.declared.Sheet.{Sheet}
use Rattle.file_put.specs.Sheet.{Written}
use Rattle.file_put.specs.Put.{line_text}
use Rattle.file_put.proofs.Sheets.{written_none, written_then}
use Rattle.file_row.specs.Row.{row_kind}
use Rattle.file_text.specs.Text.{row_line, letters_line, joined}
use Rattle.file_out.specs.Length.{line_length, row_length, wide_rows, rows_length, word_length}
use Rattle.file_out.proofs.Length.{kind_long, row_long, rows_all, letters_full}

-- lines written: none yet, and one more
pub lines_none : (line : ℕ → List ℕ) (s : Sheet) → Written s (joined line 0) s
unfolding joined
lines_none line s = written_none s

pub lines_next : (line : ℕ → List ℕ) {s t u : Sheet} (k : ℕ) → Written s (joined line k) t → Written t (line k) u → Written s (joined line (k + 1)) u
unfolding joined
lines_next line k p q = rw (add-one k) (written_then p q)

-- a line more has no more room than all have
joined_room : (line : ℕ → List ℕ) (k n : ℕ) → k < n → length (joined line k) + length (line k) ≤ length (joined line n)
unfolding joined
joined_room line k zero h = absurd (not-suc-le-zero h)
joined_room line k (suc n) h = go (dec_lt k n) (joined_room line k n)
  where
    go : Dec (k < n) → (k < n → length (joined line k) + length (line k) ≤ length (joined line n)) → length (joined line k) + length (line k) ≤ length (joined line n ++ line n)
    go (yes l) ih = omega (arith, ih l, length-append (joined line n) (line n))
    go (no l) ih = let e : k ≡ n = omega arith in rw e (omega (arith, length-append (joined line n) (line n)))

-- a further 04 or 07: there is room for it, and its rows are as long as each other
module _ (net : Net) (sized : Sized net) (t : ℕ) (h : t < net.transitions) where
  pub row_room : (a b : Sheet) → a.at + rows_length net.places net.transitions (wide_rows net) ≤ length a.room.now → Written a (joined (row_line net) t) b
      → (b.at + row_length (row_kind (row net.places t net.pre) (row net.places t net.post)) (length (row net.places t net.pre)) ≤ length b.room.now)
      × (length (row net.places t net.post) ≡ length (row net.places t net.pre))
      × (length (row net.places t net.pre) ≤ count_limit)
  row_room _ _ roomy p =
      let a = rows_long net t sized h in
      let e = joined_room (row_line net) t net.transitions h in
      let f = rows_all net sized.pres sized.posts in
      let g = row_long net sized.pres sized.posts t h in
      let k = kind_long net.places (row net.places t net.pre) (row net.places t net.post) in
      (rw a.0 (omega (arith, p.appended.next, p.long, e, f, g, k)), omega (arith, a), omega (arith, a))

-- n entries off the front, or as many as there are
drop_min : (n : ℕ) (l : List ℕ) → drop (min n (length l)) l ≡ drop n l
drop_min n l = go (dec_le n (length l)) where
  go : Dec (n ≤ length l) → drop (min n (length l)) l ≡ drop n l
  go (yes h) = let e : min n (length l) ≡ n = omega arith in rw e
  go (no h) = drop_of_length-le l (omega arith) ∙ sym (drop_of_length-le l (omega arith))

-- a further 05: of the letters left, behind k full ones, those that were taken are its row
pub chunk_is : (w x r r' : List ℕ) (k : ℕ) → r ≡ drop (k * block) w → r ≡ x ++ r' → length x ≡ min block (length r) → 0 < length r
    → (k * block < length w) × (x ≡ row block k w) × (r' ≡ drop (k * block + block) w)
chunk_is w x r r' k e f n h =
    let l : length r ≡ length w - k * block = ap length e ∙ length-drop (k * block) w in
    let a : take (min block (length r)) r ≡ x = rw (← f) at (take_at x r' (min block (length r)) n) in
    let b : drop (min block (length r)) r ≡ r' = rw (← f) at (drop_at x r' (min block (length r)) n) in (
      omega arith,
      sym a ∙ take_min block r ∙ ap (take block) e,
      sym b ∙ drop_min block r ∙ ap (drop block) e ∙ drop-drop block (k * block) w,
    )

-- ... and there is room for it
pub letters_room : (w : List ℕ) (k : ℕ) (a b : Sheet) → k * block < length w → a.at + word_length (length w) ≤ length a.room.now → Written a (joined (letters_line w) k) b → b.at + line_length (1 + length (row block k w)) ≤ length b.room.now
letters_room w k a b h roomy p =
    let f = letters_full w k (omega arith) in
    let c = length-take block (drop (k * block) w) in
    let d = length-drop (k * block) w in
    omega (arith, p.appended.next, p.long)

-- what a loop over the word's chunks has written, of which k were taken, and what is left of the word
pub record Lettered (a : Sheet) (w : List ℕ) (k size : ℕ) (left : List ℕ) (b : Sheet) : Type 0 where
  pub written : Written a (joined (letters_line w) k) b
  pub sized : size ≡ block
  pub rest : left ≡ drop (k * block) w

-- a chunk x more
module _ {a b : Sheet} {w : List ℕ} {k size : ℕ} {left : List ℕ} (p : Lettered a w k size left b) (x left' : List ℕ) (h : (left ≡ x ++ left') × (length x ≡ min size (length left)) × (0 < length left)) where
  chunk : (k * block < length w) × (x ≡ row block k w) × (left' ≡ drop (k * block + block) w)
  chunk = chunk_is w x left left' k p.rest h.0 (rw p.sized at h.1) h.2

  pub lettered_room : a.at + word_length (length w) ≤ length a.room.now → b.at + line_length (1 + length x) ≤ length b.room.now
  lettered_room roomy = rw chunk.1 (letters_room w k a b chunk.0 roomy p.written)

  pub lettered_next : {c : Sheet} (m size' : ℕ) → m ≡ k + 1 → size' ≡ size → Written b (line_text (5 ∷ x)) c → Lettered a w m size' left' c
  lettered_next m size' e f q =
      let j : (k + 1) * block ≡ k * block + block = omega arith in
      rw e (record { written = lines_next (letters_line w) k p.written (rw chunk.1 at q); sized = f ∙ p.sized; rest = rw j chunk.2 })
