-- Laws of the line buffer, and of a part read line by line through it. Assumes nothing.
use mathlib.Core.Path.{◌≡◌, refl, sym, ◌∙◌, ap}
use mathlib.Core.List.{List, [], ◌∷◌, ◌++◌, append-nil, append_assoc}
use Prim.Native.Nat.{ℕ, zero, suc, ◌+◌, ◌-◌, ◌≤◌, ◌<◌}
use native.Mathlib.Omega.{arith}
use native.Mathlib.Nat.{not-suc-le-zero}
use lib.ListN.{length, take, drop, length-append}
use lib.Seq.{drop-drop, sets, sets-eq, take_at, length-take-le}
use borrow.Author.Tests.{ne_eqb, le-leb, lt-leb}
use Rattle.file_digits.specs.Frame.{line_limit, line_feed}
use Rattle.file_line.specs.declared.Reading.{Reading}
use Rattle.std.specs.Prelude.{Ok, Err}
use Rattle.std.specs.Result.{is_ok}
use Rattle.refusals.specs.declared.Refusal.{Refusal}
use Rattle.refusals.specs.Given.{Answer, refuse, or_else}
use Rattle.ground.proofs.Tests.{never}
use borrow.Rule.Slice.PartMut.{put_mid}
use mathlib.Core.Bool.{false, not}
use lib.Dec.{eqb}
use Rattle.file_line.specs.declared.Rooms.{Rooms}
use Rattle.file_line.specs.Read.{line_of, rooms_of}
use Rattle.file_parts.specs.declared.Held.{Held}
use Rattle.file_parts.specs.File.{Run, going, stopped, Both, both, ended, fed_to, feed_of, feed_all, finish_of, case_of, line_len, NoFeed}
use Rattle.file_parts.specs.Held.{abs, Sound, hold_of}
use Rattle.file_parts.proofs.Line.{stays, holds, bounds, part, clear, split, cut, Same}

-- a part of a list that is written over with a piece as long as itself
pub mid_sets : {A : Type 0} (l vs : List A) (at k : ℕ) → at + length vs ≤ length l → k ≡ length vs → put_mid at k l vs ≡ sets l at vs
mid_sets l vs at k h e = rw (e, drop-drop (length vs) at l) (sym (append_assoc (take at l) vs (drop (at + length vs) l)) ∙ sym (sets-eq vs l at h))

-- the front of a buffer with a piece stored at its end
pub front : (l vs : List ℕ) (n k : ℕ) → n + k ≤ length l → k ≡ length vs → take (n + k) (sets l n vs) ≡ take n l ++ vs
front l vs n k h e =
    let p : length (take n l) ≡ n = length-take-le n l (omega arith) in
    let q : length (take n l ++ vs) ≡ n + k = length-append (take n l) vs ∙ omega arith in
    let m : n + length vs ≤ length l = omega arith in
    ap (take (n + k)) (sets-eq vs l n m) ∙ take_at (take n l ++ vs) (drop (n + length vs) l) (n + k) q

module _ (h : Held) (piece : List ℕ) (s : Sound h) where
  held_long : length (take h.len h.line) ≡ h.len
  held_long = length-take-le h.len h.line (omega (arith, s.len, s.line))

  pub hold_long : (t : Reading) (r : Run) → line_limit - h.len < length piece → r ≡ stopped 11 (t.line + 1) → r ≡ hold_of t (take h.len h.line) piece
  unfolding hold_of
  hold_long t r l e =
      let m = held_long in
      e ∙ simp (lt-leb (length (take h.len h.line) + length piece) line_limit (omega (arith, s.len)))

  module _ (line : List ℕ) (l : length piece ≤ line_limit - h.len) (e : line ≡ sets h.line h.len piece) where
    pub hold_fine : (t : Reading) → going t (take (h.len + length piece) line) ≡ hold_of t (take h.len h.line) piece
    unfolding hold_of
    hold_fine t =
        let m = held_long in
        let f = front h.line piece h.len (length piece) (omega (arith, s.len, s.line)) refl in
        rw (e, f) (simp (le-leb (length (take h.len h.line) + length piece) line_limit (omega (arith, s.len))))

-- what holds of a refused state, and of one that goes on
pub abs_stopped : (h : Held) (r : Refusal) → h.reading ≡ Err r → abs h ≡ stopped r.number r.at
abs_stopped h r e = rw e

pub abs_going : (h : Held) (t : Reading) → h.reading ≡ Ok t → abs h ≡ going t (take h.len h.line)
abs_going h t e = rw e

-- the held line, read at its line feed
pub ended_line : (h : Held) (t : Reading) (x y : Rooms) (k : Answer Reading) (a : Run) → h.reading ≡ Ok t → k ≡ line_of t (take h.len h.line) x
    → y ≡ rooms_of t (take h.len h.line) x → a ≡ ended k → both a y ≡ feed_of (both (abs h) x) line_feed
unfolding fed_to
ended_line h t x y k a r e f g = rw (g, e, f, r)

pub over_line : (h : Held) (r : Refusal) (x : Rooms) → h.reading ≡ Err r → both (abs h) x ≡ feed_of (both (abs h) x) line_feed
unfolding fed_to
over_line h r x e = rw e

pub part_stopped : (h : Held) (r : Refusal) (f : List ℕ) (x : Rooms) → h.reading ≡ Err r → both (abs h) x ≡ feed_all (both (abs h) x) f
part_stopped h r f x n = rw (abs_stopped h r n) (sym (stays r.number r.at x f))

-- past the end of a list nothing is left
drop_all : (n : ℕ) (f : List ℕ) → length f ≤ n → drop n f ≡ []
drop_all zero [] h = refl
drop_all (suc n) [] h = refl
drop_all zero (x ∷ f) h = absurd (not-suc-le-zero h)
drop_all (suc n) (x ∷ f) h = drop_all n f (omega arith)

-- a line of the part f from `at` to e, held in r
module _ (h : Held) (f : List ℕ) (x : Rooms) (s : Sound h) (at e : ℕ) (l : at ≤ length f) (i : e ≡ at + line_len (drop at f)) where
  -- after a refusal
  pub line_over : (r : Refusal) (rest : List ℕ) → h.reading ≡ Err r → feed_all (both (abs h) x) rest ≡ feed_all (both (abs h) x) (drop at f)
  line_over r rest q = sym (part_stopped h r rest x q) ∙ part_stopped h r (drop at f) x q

  module _ (t : Reading) (z : h.reading ≡ Ok t) (r : Held) (j : abs r ≡ hold_of t (take h.len h.line) (part f at e)) where
    begun : (rest : List ℕ) → drop at f ≡ part f at e ++ rest → feed_all (both (abs r) x) rest ≡ feed_all (both (abs h) x) (drop at f)
    begun rest k =
        let c : NoFeed (part f at e) = clear f at e i l in
        sym
        (ap (feed_all (both (abs h) x)) k
        ∙ ap (λ (b : Run). feed_all (both b x) (part f at e ++ rest)) (abs_going h t z)
        ∙ holds t x (part f at e) (take h.len h.line) rest (omega (arith, held_long h (part f at e) s, s.len)) c
        ∙ ap (λ (b : Run). feed_all (both b x) rest) (sym j))

    -- the part ends there
    pub line_cut : e ≡ length f → feed_all (both (abs r) x) (drop (e + 1) f) ≡ feed_all (both (abs h) x) (drop at f)
    line_cut k =
        let n : drop (e + 1) f ≡ [] = drop_all (e + 1) f (omega arith) in
        ap (feed_all (both (abs r) x)) n ∙ begun [] (cut f at e i l k ∙ sym (append-nil (part f at e)))

    -- it is whole, or too long
    pub line_whole : (e ≡ length f → ⊥) → (w : Both) → w ≡ feed_of (both (abs r) x) line_feed → feed_all w (drop (e + 1) f) ≡ feed_all (both (abs h) x) (drop at f)
    unfolding feed_all
    line_whole k w q =
        ap (λ (b : Both). feed_all b (drop (e + 1) f)) q
        ∙ begun (line_feed ∷ drop (e + 1) f) (split f at e i l (omega (arith, (bounds f at e i l).1)))

-- the lines of f up to `at` are read into r and x: what is left comes to what the whole does from h and x₀
pub record LinesRead (f : List ℕ) (h : Held) (x₀ : Rooms) (at : ℕ) (r : Held) (x : Rooms) : Type 0 where
  pub sound : Sound r
  pub comes : feed_all (both (abs r) x) (drop at f) ≡ feed_all (both (abs h) x₀) f

pub reads_start : (f : List ℕ) (h : Held) (x : Rooms) → Sound h → LinesRead f h x 0 h x
reads_start f h x s = record { sound = s; comes = refl }

module _ (f : List ℕ) (h : Held) (x₀ : Rooms) (at : ℕ) (r : Held) (x : Rooms) (m : LinesRead f h x₀ at r x) where
  pub reads_next : (e : ℕ) (u : Held) (y : Rooms) → feed_all (both (abs u) y) (drop (e + 1) f) ≡ feed_all (both (abs r) x) (drop at f) → Sound u → LinesRead f h x₀ (e + 1) u y
  reads_next e u y q s = record { sound = s; comes = q ∙ m.comes }

  pub reads_end : length f ≤ at → both (abs r) x ≡ feed_all (both (abs h) x₀) f
  unfolding feed_all
  reads_end l = sym (ap (feed_all (both (abs r) x)) (drop_all at f l)) ∙ m.comes

  pub reads_stopped : (is_ok r.reading ≡ false) → both (abs r) x ≡ feed_all (both (abs h) x₀) f
  reads_stopped n = go r.reading refl n
    where
      go : (k : Answer Reading) → r.reading ≡ k → is_ok k ≡ false → both (abs r) x ≡ feed_all (both (abs h) x₀) f
      go (Ok t) e n = never n
      go (Err q) e n = part_stopped r q (drop at f) x e ∙ m.comes

-- the same of lent rooms, which keep their lengths
pub record LentRead (f : List ℕ) (h : Held) (x₀ : Rooms) (at : ℕ) (r : Held) (x : Rooms) : Type 0 where
  pub sound : Sound r
  pub same : Same x x₀
  pub comes : feed_all (both (abs r) x) (drop at f) ≡ feed_all (both (abs h) x₀) f

pub lent_start : (f : List ℕ) (h : Held) (x : Rooms) → Sound h → LentRead f h x 0 h x
lent_start f h x s =
    let m = reads_start f h x s in
    record { sound = m.sound; same = record { caps = refl; marks = refl; initial = refl; pre = refl; post = refl; word = refl }; comes = m.comes }

module _ (f : List ℕ) (h : Held) (x₀ : Rooms) (at : ℕ) (r : Held) (x : Rooms) (m : LentRead f h x₀ at r x) where
  lines : LinesRead f h x₀ at r x
  lines = record { sound = m.sound; comes = m.comes }

  pub lent_next : (e : ℕ) (u : Held) (y : Rooms) → feed_all (both (abs u) y) (drop (e + 1) f) ≡ feed_all (both (abs r) x) (drop at f) → Sound u → Same y x → LentRead f h x₀ (e + 1) u y
  lent_next e u y q s d =
      let n = reads_next f h x₀ at r x lines e u y q s in
      record {
        sound = n.sound;
        same = record { caps = d.caps ∙ m.same.caps; marks = d.marks ∙ m.same.marks; initial = d.initial ∙ m.same.initial; pre = d.pre ∙ m.same.pre; post = d.post ∙ m.same.post; word = d.word ∙ m.same.word };
        comes = n.comes;
      }

  pub lent_end : length f ≤ at → both (abs r) x ≡ feed_all (both (abs h) x₀) f
  lent_end l = reads_end f h x₀ at r x lines l

  pub lent_stopped : (is_ok r.reading ≡ false) → both (abs r) x ≡ feed_all (both (abs h) x₀) f
  lent_stopped n = reads_stopped f h x₀ at r x lines n

-- the end of a file, by its state
module _ (h : Held) (s : Sound h) where
  pub end_stopped : (r : Refusal) → h.reading ≡ Err r → Err r ≡ case_of (abs h)
  unfolding case_of
  end_stopped r e = rw (abs_stopped h r e)

  -- as a chain: f is what comes of the state where no byte is held
  pub end_chain : (t : Reading) → h.reading ≡ Ok t → or_else (refuse (not (eqb h.len 0)) 11 (t.line + 1)) (finish_of t) ≡ case_of (abs h)
  unfolding case_of
  end_chain t e = rw (abs_going h t e) (go (take h.len h.line) (held_long h [] s))
    where
      go : (d : List ℕ) → length d ≡ h.len → or_else (refuse (not (eqb h.len 0)) 11 (t.line + 1)) (finish_of t) ≡ case_of (going t d)
      go [] q = rw (← q)
      go (b ∷ d) q = rw (← q, ne_eqb (length (b ∷ d)) 0 (λ z. omega arith))
