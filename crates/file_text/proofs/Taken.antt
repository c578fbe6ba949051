-- The lines of a file that are taken, and what comes after the last of them; the fold over its bytes, by that. Assumes nothing.
use Rattle.std.specs.Prelude.{Ok, Err}
use Rattle.refusals.specs.Given.{Fault, refusal}
use mathlib.Core.Path.{◌≡◌, refl, sym, ◌∙◌, ap}
use mathlib.Core.Bool.{Bool, true, false, cond}
use mathlib.Core.List.{List, [], ◌∷◌, ◌++◌, append_assoc, append-nil}
use Prim.Native.Nat.{ℕ, suc, ◌+◌}
use native.Mathlib.Omega.{arith}
use lib.Dec.{eqb, leb}
use lib.ListN.{length}
use borrow.Author.Tests.{eqb-true, eqb-false, ne_eqb}
use Rattle.file_digits.specs.Frame.{line_limit, line_feed}
use Rattle.file_line.specs.declared.Reading.{Reading}
use Rattle.file_line.specs.declared.Rooms.{Rooms}
use Rattle.file_line.specs.Read.{fresh, judge_of, advanced, stored, rooms_of}
use Rattle.file_line.proofs.Meaning as line-meaning
use Rattle.file_parts.specs.File.{going, stopped, Both, both, feed_all, read_of, line_len, NoFeed}
use Rattle.file_parts.specs.Held.{hold_of}
use Rattle.file_parts.proofs.Line.{all_append, holds, next_line, refused_line}
use Rattle.file_text.specs.Refusal.{feeds, TakenLines, no_line, one_more}
use Rattle.file_text.proofs.Fold.{fed_file}

-- bytes without a line feed, one after another
nofeed_append : (a c : List ℕ) → NoFeed a → NoFeed c → NoFeed (a ++ c)
unfolding line_len
nofeed_append [] c h k = k
nofeed_append (b ∷ a) c h k = go (eqb b line_feed) h (λ g. nofeed_append a c g k)
  where
    go : (t : Bool) → cond t 0 (suc (line_len a)) ≡ suc (length a) → (NoFeed a → NoFeed (a ++ c)) → cond t 0 (suc (line_len (a ++ c))) ≡ suc (length (a ++ c))
    go true h r = absurd (omega arith)
    go false h r = ap suc (r (omega arith))

nofeed_one : (b : ℕ) → (b ≡ line_feed → ⊥) → NoFeed (b ∷ [])
unfolding line_len
nofeed_one b n = simp (ne_eqb b line_feed n)

-- after the lines that are taken stands a faulty line, or bytes that no line feed ends: none, where the file ends with its last line
pub data Cutting (x : Rooms) (file : List ℕ) : Type 0 where
  at_fault : (lines line rest : List ℕ) (s : Reading) (y : Rooms) (n l : ℕ) → TakenLines x lines s y → file ≡ lines ++ (line ++ (line_feed ∷ rest)) → NoFeed line
      → judge_of s line y ≡ Err (refusal n l) → Cutting x file
  at-end : (lines line : List ℕ) (s : Reading) (y : Rooms) → TakenLines x lines s y → file ≡ lines ++ line → NoFeed line → Cutting x file

-- byte by byte, after the lines q and the bytes d of the next
cuts : (x : Rooms) (bs : List ℕ) (s : Reading) (y : Rooms) (q d : List ℕ) → TakenLines x q s y → NoFeed d → Cutting x (q ++ (d ++ bs))
unfolding line_len
cuts x [] s y q d k f = at-end q d s y k (ap (λ (z : List ℕ). q ++ z) (append-nil d)) f
cuts x (b ∷ bs) s y q d k f = go (eqb b line_feed) refl (λ s y q d k f. cuts x bs s y q d k f)
  where
    Rec : Type 0
    Rec = (s : Reading) (y : Rooms) (q d : List ℕ) → TakenLines x q s y → NoFeed d → Cutting x (q ++ (d ++ bs))

    line : b ≡ line_feed → (v : Fault) → judge_of s d y ≡ v → Rec → Cutting x (q ++ (d ++ (b ∷ bs)))
    line h (Ok _) o rec =
        let c = rec (advanced s d) (stored s d y) (q ++ (d ++ (line_feed ∷ []))) [] (one_more q d s y k f ((line-meaning.taken_exactly s d y).0 o)) refl in
        rw h (rw (append_assoc q (d ++ (line_feed ∷ [])) bs, append_assoc d (line_feed ∷ []) bs) at c)
    line h (Err r) o rec = at_fault q d bs s y r.number r.at k (ap (λ (c : ℕ). q ++ (d ++ (c ∷ bs))) h) f o

    go : (a : Bool) → eqb b line_feed ≡ a → Rec → Cutting x (q ++ (d ++ (b ∷ bs)))
    go true h rec = line (eqb-true _ _ h) (judge_of s d y) refl rec
    go false h rec = rw (append_assoc d (b ∷ []) bs) at (rec s y q (d ++ (b ∷ [])) k (nofeed_append d (b ∷ []) f (nofeed_one b (eqb-false _ _ h))))

pub cutting : (x : Rooms) (file : List ℕ) → Cutting x file
unfolding line_len
cutting x file = cuts x file fresh x [] [] no_line refl

-- lines that are taken are read to the state and the rooms after them
pub taken_read : (x : Rooms) (lines : List ℕ) (s : Reading) (y : Rooms) → TakenLines x lines s y → read_of x lines ≡ both (going s []) y
unfolding feed_all
taken_read x lines s y no_line = refl
taken_read x lines s y (one_more before line t z k h m) =
    let j : judge_of t line z ≡ Ok tt = (line-meaning.taken_exactly t line z).1 m in
    let l = line-meaning.taken_line t line z j in
    all_append (both (going fresh []) x) before (line ++ (line_feed ∷ []))
    ∙ ap (λ (u : Both). feed_all u (line ++ (line_feed ∷ []))) (taken_read x before t z k)
    ∙ next_line t z line [] h (advanced t line) (sym l.0)
    ∙ ap (both (going (advanced t line) [])) l.1

-- a state counts the lines before it
pub line_number : (x : Rooms) (lines : List ℕ) (s : Reading) (y : Rooms) → TakenLines x lines s y → s.line ≡ feeds lines
line_number x lines s y k = (rw (taken_read x lines s y k) at (fed_file x lines).counted).1

-- what the whole file is read to, by what comes after the lines that are taken
module _ (x : Rooms) (file lines : List ℕ) (s : Reading) (y : Rooms) (k : TakenLines x lines s y) where
  then_reads : (rest : List ℕ) → file ≡ lines ++ rest → read_of x file ≡ feed_all (both (going s []) y) rest
  then_reads rest e =
      ap (read_of x) e ∙ all_append (both (going fresh []) x) lines rest ∙ ap (λ (z : Both). feed_all z rest) (taken_read x lines s y k)

  pub fault_read : (line rest : List ℕ) (n l : ℕ) → file ≡ lines ++ (line ++ (line_feed ∷ rest)) → NoFeed line → judge_of s line y ≡ Err (refusal n l) → read_of x file ≡ both (stopped n l) (rooms_of s line y)
  fault_read line rest n l e f j =
      let r = line-meaning.refused_line s line y n l j in
      then_reads (line ++ (line_feed ∷ rest)) e ∙ refused_line s y line rest f n l (sym r.0)

  pub end_read : (line : List ℕ) → file ≡ lines ++ line → NoFeed line → read_of x file ≡ both (hold_of s [] line) y
  unfolding feed_all
  end_read line e f = then_reads line e ∙ ap (feed_all (both (going s []) y)) (sym (append-nil line)) ∙ holds s y line [] [] (omega arith) f

-- and a file that is read to the end of a line is lines that are taken
pub read_taken : (x : Rooms) (file : List ℕ) (t : Reading) (z : Rooms) → read_of x file ≡ both (going t []) z → TakenLines x file t z
unfolding hold_of
read_taken x file t z r = go (cutting x file)
  where
    go : Cutting x file → TakenLines x file t z
    go (at_fault lines line rest s y n l k e f j) =
        let o : stopped n l ≡ going t [] = ap (λ (u : Both). u.run) (sym (fault_read x file lines s y k line rest n l e f j) ∙ r) in
        let c : ◌≡◌ {A = ℕ} 0 1 = cc in
        absurd (omega arith)
    go (at-end lines [] s y k e f) =
        let o : both (going s []) y ≡ both (going t []) z = sym (end_read x file lines s y k [] e f) ∙ r in
        let g : going s [] ≡ going t [] = ap (λ (u : Both). u.run) o in
        let a : s ≡ t = cc in
        let b : y ≡ z = ap (λ (u : Both). u.rooms) o in
        rw (e, append-nil, ← a, ← b) k
    go (at-end lines (b ∷ d) s y k e f) = held (leb (length {A = ℕ} [] + length (b ∷ d)) line_limit) (ap (λ (u : Both). u.run) (sym (end_read x file lines s y k (b ∷ d) e f) ∙ r))
      where
        held : (a : Bool) → cond a (going s (b ∷ d)) (stopped 11 (s.line + 1)) ≡ going t [] → TakenLines x file t z
        held true o = let c : ◌≡◌ {A = ℕ} 0 1 = cc in absurd (omega arith)
        held false o = let c : ◌≡◌ {A = ℕ} 0 1 = cc in absurd (omega arith)
