-- How long a case file is: each line, the lines written so far, the whole file, and the longest one. Assumes nothing.
use Prim.Native.Nat.{ℕ, zero, suc, ◌+◌, ◌-◌, ◌*◌, ◌≤◌, ◌<◌, min}
use mathlib.Core.Path.{◌≡◌, refl, ◌∙◌, ap}
use mathlib.Core.Bool.{Bool, true, false, cond}
use mathlib.Core.List.{List, [], ◌∷◌, ◌++◌}
use native.Mathlib.Omega.{arith}
use native.Mathlib.Nat.{suc-mul, add-mul, mul-le-mul}
use lib.ListN.{length, drop, length-append, length-take, length-drop}
use lib.Dec.{eqb}
use borrow.Author.Tests.{eq-eqb, ne_eqb}
use Rattle.ground.specs.Limits.{count_limit, word_limit}
use Rattle.ground.specs.Lists.{bit, tally}
use Rattle.ground.proofs.Scan.{bit_most, tally_most}
use Rattle.file_digits.specs.Frame.{block, line_feed}
use Rattle.file_put.specs.Put.{digits_of, line_text, twos}
use Rattle.file_put.proofs.Round.{digits_long}
use Rattle.file_put.proofs.Twos.{twos_long}
use Rattle.file_mask.specs.Mask.{mask_bytes, mask_of, eight}
use Rattle.file_mask.proofs.Masks.{eight_long}
use Rattle.net.specs.Net.{Net, Sized}
use Rattle.net.specs.Letter.{row}
use Rattle.net.proofs.Rows.{row_end, row_length_lem}
use Rattle.file_row.specs.Row.{narrow_row, wide_row, is_wide, row_kind, row_frame}
use Rattle.file_row.proofs.Framed.{frame_long}
use Rattle.file_text.specs.Text.{counts_line, caps_line, pockets_line, pockets_lines, tokens_line, row_line, letters_line, letters_lines, joined, file_of}
use Rattle.file_out.specs.Length.{line_length, numbers_length, mask_length, row_length, wide_at, wide_rows, rows_length, word_length, file_length, file_limit}

-- ---- a line
-- two digits a byte, and a line feed
pub line_long : (bytes : List ℕ) → length (line_text bytes) ≡ line_length (length bytes)
line_long bytes = let a = length-append (digits_of bytes) (line_feed ∷ []) in omega (arith, digits_long bytes)

pub counts_long : (P T : ℕ) → length (counts_line P T) ≡ line_length 3
counts_long P T = line_long (1 ∷ P ∷ T ∷ [])

-- a kind and numbers of two bytes
pub numbers_long : (kind : ℕ) (l : List ℕ) → length (line_text (kind ∷ twos l)) ≡ numbers_length (length l)
numbers_long kind l = let a = line_long (kind ∷ twos l) in omega (arith, twos_long l)

pub caps_long : (caps : List ℕ) → length (caps_line caps) ≡ numbers_length (length caps)
caps_long caps = numbers_long 2 caps

pub tokens_long : (initial : List ℕ) → length (tokens_line initial) ≡ numbers_length (length initial)
tokens_long initial = numbers_long 3 initial

-- a 06, and how long it is where the mask is 0 and where it is not
pub mask_line_long : (mask : ℕ) → length (line_text (6 ∷ eight mask)) ≡ line_length (1 + mask_bytes)
mask_line_long mask = omega (arith, line_long (6 ∷ eight mask), eight_long mask)

pub mask_none : (mask : ℕ) → mask ≡ 0 → mask_length mask ≡ 0
unfolding mask_length
mask_none mask h = rw (eq-eqb mask 0 h)

pub mask_some : (mask : ℕ) → (mask ≡ 0 → ⊥) → mask_length mask ≡ line_length (1 + mask_bytes)
unfolding mask_length
mask_some mask h = rw (ne_eqb mask 0 h)

pub mask_most : (mask : ℕ) → mask_length mask ≤ line_length (1 + mask_bytes)
unfolding mask_length
mask_most mask = go (eqb mask 0)
  where
    go : (b : Bool) → cond b 0 (line_length (1 + mask_bytes)) ≤ line_length (1 + mask_bytes)
    go true = omega arith
    go false = omega arith

pub pockets_long : (marks : List ℕ) → length (pockets_lines marks) ≡ mask_length (mask_of marks)
unfolding pockets_lines mask_length
pockets_long marks = go (eqb (mask_of marks) 0)
  where
    go : (b : Bool) → length (cond b [] (pockets_line marks)) ≡ cond b 0 (line_length (1 + mask_bytes))
    go true = refl
    go false = mask_line_long (mask_of marks)

-- a frame of a transition's weights: an 07 has two digits more for each weight
pub kind_long : (P : ℕ) (takes puts : List ℕ) → row_length (row_kind takes puts) P ≡ row_length narrow_row P + bit (is_wide takes puts) * (4 * P)
unfolding row_kind
kind_long P takes puts = go (is_wide takes puts)
  where
    go : (b : Bool) → row_length (cond b wide_row narrow_row) P ≡ row_length narrow_row P + bit b * (4 * P)
    go true = omega arith
    go false = omega arith

-- that of a net whose lists have their lengths
module _ (net : Net) (pres : length net.pre ≡ net.transitions * net.places) (posts : length net.post ≡ net.transitions * net.places) where
  pub row_long : (t : ℕ) → t < net.transitions → length (row_line net t) ≡ row_length narrow_row net.places + bit (wide_at net t) * (4 * net.places)
  row_long t h =
      let takes = row net.places t net.pre in
      let puts = row net.places t net.post in
      let a = row_length_lem net.places t net.pre (rw pres (row_end t net.transitions net.places h)) in
      let b = row_length_lem net.places t net.post (rw posts (row_end t net.transitions net.places h)) in
      line_long (row_frame t takes puts) ∙ ap line_length (frame_long t net.places takes puts a b) ∙ kind_long net.places takes puts

  -- as many as were written so far
  pub rows_long : (t : ℕ) → t ≤ net.transitions → length (joined (row_line net) t) ≡ rows_length net.places t (tally (wide_at net) t)
  unfolding joined tally
  rows_long zero h = omega arith
  rows_long (suc t) h =
      length-append (joined (row_line net) t) (row_line net t)
      ∙ omega (arith, rows_long t (omega arith), row_long t h, suc-mul t (row_length narrow_row net.places), add-mul (tally (wide_at net) t) (bit (wide_at net t)) (4 * net.places))

  -- all of them
  pub rows_all : length (joined (row_line net) net.transitions) ≡ rows_length net.places net.transitions (wide_rows net)
  unfolding wide_rows
  rows_all = rows_long net.transitions (omega arith)

-- ---- the 05
-- line k has the letters of row k
pub letters_long : (w : List ℕ) (k : ℕ) → length (letters_line w k) ≡ line_length (1 + min block (length w - k * block))
letters_long w k =
    let a = line_long (5 ∷ row block k w) in
    omega (arith, length-take block (drop (k * block) w), length-drop (k * block) w)

-- the 05 written so far hold as many letters as there are, at most a block each
pub letters_so_far : (w : List ℕ) (k : ℕ) → length (joined (letters_line w) k) ≡ 2 * min (k * block) (length w) + line_length 1 * k
unfolding joined
letters_so_far w zero = omega arith
letters_so_far w (suc k) =
    length-append (joined (letters_line w) k) (letters_line w k)
    ∙ omega (arith, letters_so_far w k, letters_long w k)

-- all of them full
pub letters_full : (w : List ℕ) (k : ℕ) → k * block ≤ length w → length (joined (letters_line w) k) ≡ 2 * (k * block) + line_length 1 * k
letters_full w k h = omega (arith, letters_so_far w k)

-- and with the last, short one
pub letters_all : (w : List ℕ) (k : ℕ) → length w ≤ k * block → length (joined (letters_line w) k) ≡ 2 * length w + line_length 1 * k
letters_all w k h = omega (arith, letters_so_far w k)

-- how many 05 there are: no letter is left over
pub lines_end : (n : ℕ) → n ≤ letters_lines n * block
lines_end n = omega arith

pub word_long : (w : List ℕ) → length (joined (letters_line w) (letters_lines (length w))) ≡ word_length (length w)
word_long w = letters_all w (letters_lines (length w)) (lines_end (length w))

-- ---- the file
module _ (net : Net) (initial w : List ℕ) (sized : Sized net) (marked : length initial ≡ net.places) where
  pub file_length_lem : length (file_of net initial w) ≡ file_length net.places net.transitions (wide_rows net) (mask_of net.marks) (length w)
  unfolding file_of
  file_length_lem =
      let a = counts_line net.places net.transitions in
      let b = caps_line net.caps in
      let p = pockets_lines net.marks in
      let c = tokens_line initial in
      let d = joined (row_line net) net.transitions in
      let e = joined (letters_line w) (letters_lines (length w)) in
      let la = counts_long net.places net.transitions in
      let lb : length b ≡ numbers_length net.places = caps_long net.caps ∙ ap numbers_length sized.capped in
      let lp = pockets_long net.marks in
      let lc : length c ≡ numbers_length net.places = tokens_long initial ∙ ap numbers_length marked in
      let ld = rows_all net sized.pres sized.posts in
      let le = word_long w in
      omega (arith, length-append (a ++ b ++ p ++ c ++ d) e, length-append (a ++ b ++ p ++ c) d, length-append (a ++ b ++ p) c, length-append (a ++ b) p, length-append a b)

-- no more transitions have an 07 than there are
pub wide_most : (net : Net) → wide_rows net ≤ net.transitions
unfolding wide_rows
wide_most net = tally_most (wide_at net) net.transitions

-- a count of them: one more still fits, and all are counted
pub wide_fits : (net : Net) → Sized net → (t n r : ℕ) → n ≡ tally (wide_at net) t → r ≡ bit (wide_at net t) → t < net.transitions → n + r ≤ count_limit
wide_fits net sized t n r e f h = omega (arith, tally_most (wide_at net) t, bit_most (wide_at net t), sized.few_transitions)

pub wide_told : (net : Net) (t n : ℕ) → t ≤ net.transitions → net.transitions ≤ t → n ≡ tally (wide_at net) t → n ≡ wide_rows net
unfolding wide_rows
wide_told net t n h l e = let q : t ≡ net.transitions = omega arith in rw q at e

-- within the limits their frames are no longer than the longest ones, and no file is longer than the longest
pub longest_rows : (P T wide : ℕ) → P ≤ count_limit → T ≤ count_limit → wide ≤ T → rows_length P T wide ≤ rows_length count_limit count_limit count_limit
longest_rows P T wide p t h =
    let a : row_length narrow_row P ≤ row_length narrow_row count_limit = omega arith in
    let b : 4 * P ≤ 4 * count_limit = omega arith in
    let c : wide ≤ count_limit = omega arith in
    omega (arith, mul-le-mul t a, mul-le-mul c b)

pub longest_file : (P T wide mask n : ℕ) → P ≤ count_limit → T ≤ count_limit → wide ≤ T → n ≤ word_limit → file_length P T wide mask n ≤ file_limit
longest_file P T wide mask n p t k h =
    let m : mask_length mask ≤ mask_length 1 = rw (mask_some 1 (λ e. omega arith)) (mask_most mask) in
    omega (arith, longest_rows P T wide p t k, m)

pub largest : file_limit ≡ 167774
unfolding mask_length
largest = refl
