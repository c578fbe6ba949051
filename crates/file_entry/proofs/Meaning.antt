-- What the answer to a case file means: what document 01 says of lines, refusals and rooms, over the fold. Assumes nothing.
use Rattle.std.specs.Prelude.{Ok, Err}
use Rattle.refusals.specs.Given.{Answer, refusal, refused}
use Rattle.refusals.proofs.Chains.{refused_one}
use Prim.Native.Nat.{ℕ, ◌+◌, ◌*◌, ◌≤◌}
use mathlib.Core.Path.{◌≡◌, refl, sym, ap, ◌∙◌}
use mathlib.Core.Bool.{Bool, true, false, cond}
use mathlib.Core.List.{List, [], ◌∷◌, ◌++◌}
use mathlib.Core.Logic.{◌↔◌}
use native.Mathlib.Omega.{arith}
use lib.ListN.{length, take}
use lib.Seq.{sets, length-take-le}
use lib.Dec.{eqb}
use borrow.Author.Tests.{eqb-true}
use Rattle.ground.specs.Limits.{count_limit, word_limit}
use Rattle.file_digits.specs.Frame.{line_feed}
use Rattle.file_line.specs.declared.Reading.{Reading}
use Rattle.file_line.specs.declared.Rooms.{Rooms}
use Rattle.file_line.specs.Read.{cell_limit, blank, fresh, judge_of}
use Rattle.file_line.specs.Walk.{Good, Large}
use Rattle.file_line.proofs.Meaning.{judged_number, judged_exactly}
use Rattle.file_parts.specs.File.{Case, Run, going, stopped, both, together, feed_parts, finish_of, case_of, NoFeed}
use Rattle.file_parts.proofs.Line.{any_cutting, large}
use Rattle.file_text.specs.Refusal.{feeds, TakenLines, RefusedFile, faulty_line, cut_off, frames_missing, last_line}
use Rattle.file_line.proofs.Hanging.{cells_few}
use Rattle.file_text.proofs.Fronts.{front_of, rest_of}
use Rattle.file_text.proofs.Fold.{LinesCounted, fed_file}
use Rattle.file_text.proofs.Taken.{read_taken, line_number}
use Rattle.file_text.proofs.Refusal.{refused_means, refused_early}
use Rattle.file_entry.specs.declared.CaseFile.{CaseFile}
use Rattle.file_entry.specs.Entry.{read, Came, came, largest, Largest, read_all, laid, answered, filled_of, case_file_of, numbers, CaseRead}
use Rattle.file_entry.specs.Cut.{Front}
use Rattle.file_entry.proofs.Fronts.{largest_of_lem, of_largest}
use Rattle.file_entry.proofs.Ends.{blank_large}

-- `numbers` tells any two answers apart
pub numbers_apart : (a b : Answer CaseFile) → numbers a ≡ numbers b → a ≡ b
numbers_apart (Ok c) (Ok f) e = let x : c.places ≡ f.places = cc in let y : c.transitions ≡ f.transitions = cc in let z : c.letters ≡ f.letters = cc in rw (x, y, z)
numbers_apart (Ok c) (Err r) e = let z : ◌≡◌ {A = ℕ} 0x81 0x82 = cc in absurd (omega arith)
numbers_apart (Err r) (Ok c) e = let z : ◌≡◌ {A = ℕ} 0x82 0x81 = cc in absurd (omega arith)
numbers_apart (Err r) (Err q) e = let x : r.number ≡ q.number = cc in let y : r.at ≡ q.at = cc in rw (x, y)

abbrev counts : ℕ → ℕ → ℕ → CaseFile
counts p t n = record { places = p; transitions = t; letters = n }

read_one : (p t n q u k : ℕ) → read p t n ≡ read q u k → (p ≡ q) × (t ≡ u) × (n ≡ k)
read_one p t n q u k e =
    let h : counts p t n ≡ counts q u k = cc in
    (ap (λ (c : CaseFile). c.places) h, ap (λ (c : CaseFile). c.transitions) h, ap (λ (c : CaseFile). c.letters) h)

-- the promise has one answer, and one content of the rooms
pub unique : (file : List ℕ) (x : Rooms) (r r' : Answer CaseFile) (y y' : Rooms) → CaseRead file x r y → CaseRead file x r' y' → (r ≡ r') × (y ≡ y')
unique file x r r' y y' a b = (numbers_apart r r' (a.answer ∙ sym b.answer), a.left ∙ sym b.left)

-- a list laid to the front of a room
laid_front : (n limit : ℕ) (y x : List ℕ) → n ≤ limit → limit ≤ length y → limit ≤ length x → Front n y x (sets x 0 (take n y))
laid_front n limit y x a b c =
    let l : length (take n y) ≡ n = length-take-le n y (omega arith) in
    record { front = front_of (take n y) x n l (omega arith); rest = rest_of (take n y) x n l (omega arith) }

laid_fronts : (s : Reading) (y x x' : Rooms) → Good s → Large y → Largest x → x' ≡ laid s y x → (P T n : ℕ) → s.places ≡ P → s.transitions ≡ T → s.letters ≡ n
    → Front P y.caps x.caps x'.caps × Front P y.marks x.marks x'.marks × Front P y.initial x.initial x'.initial × Front (T * P) y.pre x.pre x'.pre × Front (T * P) y.post x.post x'.post
    × Front n y.word x.word x'.word
laid_fronts s y x x' g h l e P T n p t k =
    let c = cells_few s g in
    rw (e, ← p, ← t, ← k) (
      laid_front s.places count_limit y.caps x.caps g.places h.caps (omega (arith, l.caps)),
      laid_front s.places count_limit y.marks x.marks g.places h.marks (omega (arith, l.marks)),
      laid_front s.places count_limit y.initial x.initial g.places h.initial (omega (arith, l.initial)),
      laid_front (s.transitions * s.places) cell_limit y.pre x.pre c h.pre (omega (arith, l.pre)),
      laid_front (s.transitions * s.places) cell_limit y.post x.post c h.post (omega (arith, l.post)),
      laid_front s.letters word_limit y.word x.word g.letters h.word (omega (arith, l.word)),
    )

-- what the fold knows where the file was read whole, and where it was not
ended_good : (r : Run) (k : ℕ) (s : Reading) → LinesCounted k r → case_of r ≡ Ok s → (Good s) × (s.phase ≡ 5)
unfolding case_of finish_of
ended_good (going t []) k s c e = go (eqb t.phase 5) refl e
  where
    go : (b : Bool) → eqb t.phase 5 ≡ b → cond b (Ok t) (refused 12 (t.line + 1)) ≡ Ok s → (Good s) × (s.phase ≡ 5)
    go true q f = let i : t ≡ s = cc in rw (← i) (c.0, eqb-true _ _ q)
    go false q f = let z : ◌≡◌ {A = ℕ} 0 1 = cc in absurd (omega arith)
ended_good (going t (b ∷ d)) k s c e = let z : ◌≡◌ {A = ℕ} 0 1 = cc in absurd (omega arith)
ended_good (stopped n l) k s c e = let z : ◌≡◌ {A = ℕ} 0 1 = cc in absurd (omega arith)

refused_line_is : (r : Run) (k n l : ℕ) → LinesCounted k r → case_of r ≡ refused n l → (1 ≤ l) × (l ≤ k + 1)
unfolding case_of finish_of
refused_line_is (going t []) k n l c e = go (eqb t.phase 5) e
  where
    go : (b : Bool) → cond b (Ok t) (refused 12 (t.line + 1)) ≡ refused n l → (1 ≤ l) × (l ≤ k + 1)
    go true f = let z : ◌≡◌ {A = ℕ} 0 1 = cc in absurd (omega arith)
    go false f = let i = (refused_one {A = Reading} 12 (t.line + 1) n l f).1 in (omega (arith, i), omega (arith, i, c.1))
refused_line_is (going t (b ∷ d)) k n l c e = let i = (refused_one {A = Reading} 11 (t.line + 1) n l e).1 in (omega (arith, i), omega (arith, i, c.1))
refused_line_is (stopped m j) k n l c e = let i = (refused_one {A = Reading} m j n l e).1 in (omega (arith, i, c.0), omega (arith, i, c.1))

module _ (file : List ℕ) (x : Rooms) (r : Answer CaseFile) (x' : Rooms) (p : CaseRead file x r x') where
  answer_is : r ≡ (case_file_of file x).answer
  answer_is = numbers_apart r (case_file_of file x).answer p.answer

  -- "a lent list's or room's length disagrees": then nothing is read, and all is as found
  not_largest : largest x ≡ false → (r ≡ refused 2 0) × (x' ≡ x)
  not_largest e = (answer_is ∙ rw e, p.left ∙ rw e)

  -- else the answer is what the fold over the file's bytes comes to
  pub reads_the_fold : Largest x → came r x' ≡ filled_of file x
  reads_the_fold l =
      let e = of_largest x l in
      let a : r ≡ (filled_of file x).answer = answer_is ∙ rw e in
      let b : x' ≡ (filled_of file x).left = p.left ∙ rw e in
      rw (a, b)

  -- and so it is for any cutting of the file into parts, read one after another
  pub parts_the_same : Largest x → (parts : List (List ℕ)) → together parts ≡ file
      → came r x' ≡ answered (case_of (feed_parts (both (going fresh []) blank) parts).run) (feed_parts (both (going fresh []) blank) parts).rooms x
  parts_the_same l parts e =
      let z : feed_parts (both (going fresh []) blank) parts ≡ read_all file = any_cutting (both (going fresh []) blank) parts ∙ ap read_all e in
      rw z (reads_the_fold l)

  of_case : Largest x → (k : Case) → case_of (read_all file).run ≡ k → came r x' ≡ answered k (read_all file).rooms x
  of_case l k e = reads_the_fold l ∙ ap (λ (j : Case). answered j (read_all file).rooms x) e

  -- read, or refused, exactly where the fold comes to it
  pub whole_read : Largest x → (s : Reading) → case_of (read_all file).run ≡ Ok s → r ≡ read s.places s.transitions s.letters
  whole_read l s q = ap (λ (z : Came). z.answer) (of_case l (Ok s) q)

  pub refused_exactly : Largest x → (n k : ℕ) → (r ≡ refused n k) ↔ (case_of (read_all file).run ≡ refused n k)
  refused_exactly l n k = (λ e. went e (case_of (read_all file).run) refl, λ q. ap (λ (z : Came). z.answer) (of_case l (refused n k) q))
    where
      went : r ≡ refused n k → (c : Case) → case_of (read_all file).run ≡ c → case_of (read_all file).run ≡ refused n k
      went e (Ok s) q = let i = whole_read l s q in let z : ◌≡◌ {A = ℕ} 0 1 = cc in absurd (omega arith)
      went e (Err f) q =
          let i : r ≡ Err f = ap (λ (z : Came). z.answer) (of_case l (Err f) q) in
          let a = refused_one {A = CaseFile} f.number f.at n k (sym i ∙ e) in
          q ∙ rw (a.0, a.1)

  -- a refusal n on line l is the earliest faulty line, a last line cut off, or missing frames, and is given exactly then
  pub refused_file : Largest x → (n k : ℕ) → (r ≡ refused n k) ↔ RefusedFile blank file n k
  refused_file l n k = (λ e. (refused_means blank file n k).0 ((refused_exactly l n k).0 e), λ q. (refused_exactly l n k).1 ((refused_means blank file n k).1 q))

  -- however long the file is
  pub refused_by : Largest x → (n k : ℕ) → r ≡ refused n k → k ≤ last_line
  refused_by l n k e = refused_early blank (blank_large blank refl) file n k ((refused_file l n k).0 e)

  -- "A refusal leaves lent memory as found."
  pub refused_as_found : (n l : ℕ) → r ≡ refused n l → x' ≡ x
  refused_as_found n l e = size (largest x) refl
    where
      size : (b : Bool) → largest x ≡ b → x' ≡ x
      size true q = let g = largest_of_lem x q in ap (λ (z : Came). z.left) (of_case g (refused n l) ((refused_exactly g n l).0 e))
      size false q = (not_largest q).1

  -- a refusal in a file has its line, from 1 to the line after the last line feed
  pub every_line : Largest x → (n l : ℕ) → r ≡ refused n l → (1 ≤ l) × (l ≤ feeds file + 1)
  every_line g n l e = refused_line_is (read_all file).run (feeds file) n l (fed_file blank file).counted ((refused_exactly g n l).0 e)

  -- refusal 2, at position 0, is given exactly where a room has another length
  pub wrong_rooms : (r ≡ refused 2 0) ↔ (Largest x → ⊥)
  wrong_rooms = (λ e g. let z = (every_line g 2 0 e).0 in omega arith, λ n. size n (largest x) refl)
    where
      size : (Largest x → ⊥) → (b : Bool) → largest x ≡ b → r ≡ refused 2 0
      size n true q = absurd (n (largest_of_lem x q))
      size n false q = (not_largest q).0

  module _ (P T n : ℕ) (e : r ≡ read P T n) where
    read_largest : Largest x
    read_largest = size (largest x) refl
      where
        size : (b : Bool) → largest x ≡ b → Largest x
        size true q = largest_of_lem x q
        size false q = let i = (not_largest q).0 in let z : ◌≡◌ {A = ℕ} 0 1 = cc in absurd (omega arith)

    -- the file was read whole, and the state s that it ended in has these counts
    pub read_whole : (s : Reading) × (case_of (read_all file).run ≡ Ok s) × (s.places ≡ P) × (s.transitions ≡ T) × (s.letters ≡ n) × (x' ≡ laid s (read_all file).rooms x)
    read_whole = went (case_of (read_all file).run) refl
      where
        went : (k : Case) → case_of (read_all file).run ≡ k
            → (s : Reading) × (case_of (read_all file).run ≡ Ok s) × (s.places ≡ P) × (s.transitions ≡ T) × (s.letters ≡ n) × (x' ≡ laid s (read_all file).rooms x)
        went (Ok s) q =
            let i = whole_read read_largest s q in
            let z = read_one s.places s.transitions s.letters P T n (sym i ∙ e) in
            let a = z.0 in
            let b = z.1 in
            let c = z.2 in
            (s, q, a, b, c, ap (λ (z : Came). z.left) (of_case read_largest (Ok s) q))
        went (Err f) q = let i = (refused_exactly read_largest f.number f.at).1 q in let z : ◌≡◌ {A = ℕ} 0 1 = cc in absurd (omega arith)

    good : (Good read_whole.0) × (read_whole.0.phase ≡ 5)
    good = ended_good (read_all file).run (feeds file) read_whole.0 (fed_file blank file).counted read_whole.1

    -- the counts are those that document 01 allows
    pub read_counts : (1 ≤ P) × (P ≤ count_limit) × (1 ≤ T) × (T ≤ count_limit) × (n ≤ word_limit)
    read_counts =
        let w = read_whole in
        let g = good.0 in
        let a = g.some_places (omega (arith, good.1)) in
        let b = g.some (omega (arith, good.1)) in
        (omega (arith, a, w.2), omega (arith, g.places, w.2), omega (arith, b, w.3), omega (arith, g.transitions, w.3), omega (arith, g.letters, w.4))

    -- the net's own entries and the letters stand at the front of the rooms, and the rest is as found
    pub read_front : Front P (read_all file).rooms.caps x.caps x'.caps × Front P (read_all file).rooms.marks x.marks x'.marks × Front P (read_all file).rooms.initial x.initial x'.initial
        × Front (T * P) (read_all file).rooms.pre x.pre x'.pre × Front (T * P) (read_all file).rooms.post x.post x'.post × Front n (read_all file).rooms.word x.word x'.word
    read_front =
        let w = read_whole in
        let y = large (read_all file).rooms blank (fed_file blank file).same (blank_large blank refl) in
        laid_fronts w.0 (read_all file).rooms x x' good.0 y read_largest w.5 P T n w.2 w.3 w.4

  -- the lines up to some line feed were read, and the state s follows
  module _ (l : Largest x) (lines : List ℕ) (s : Reading) (read : (read_all lines).run ≡ going s []) where
    taken : TakenLines blank lines s (read_all lines).rooms
    taken = read_taken blank lines s (read_all lines).rooms (ap (λ (u : Run). both u (read_all lines).rooms) read)

    -- "In a file the earliest faulty line decides", whatever stands after it
    pub earliest_line : (n at : ℕ) (line rest : List ℕ) → file ≡ lines ++ (line ++ line_feed ∷ rest) → NoFeed line → judge_of s line (read_all lines).rooms ≡ Err (refusal n at) → r ≡ refused n (feeds lines + 1)
    earliest_line n at line rest e h j =
        let q : at ≡ feeds lines + 1 = (judged_number s line (read_all lines).rooms n at j).2 ∙ ap (λ (k : ℕ). k + 1) (line_number blank lines s (read_all lines).rooms taken) in
        let f = (judged_exactly s line (read_all lines).rooms n (feeds lines + 1)).0 (j ∙ ap (λ a. Err (refusal n a)) q) in
        (refused_file l n (feeds lines + 1)).1 (faulty_line lines line rest s (read_all lines).rooms taken e h f refl)

    -- "a line .. lacks its line feed": 11 on the last line, whatever it holds
    pub last_line_cut : (line : List ℕ) → file ≡ lines ++ line → NoFeed line → (line ≡ [] → ⊥) → r ≡ refused 11 (feeds lines + 1)
    last_line_cut line e h n = (refused_file l 11 (feeds lines + 1)).1 (cut_off lines line s (read_all lines).rooms taken e h n refl refl)

    -- "frames missing at the end": 12 on the line after the last
    pub missing_frames : file ≡ lines → (s.phase ≡ 5 → ⊥) → r ≡ refused 12 (feeds lines + 1)
    missing_frames e n = (refused_file l 12 (feeds lines + 1)).1 (frames_missing s (read_all lines).rooms (rw e taken) n refl (rw e))
