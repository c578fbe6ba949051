-- A refusal n on line l is one of: the earliest faulty line, a last line cut off, missing frames, exactly when, for the whole file. Assumes nothing.
use Rattle.std.specs.Prelude.{Ok}
use Rattle.refusals.specs.Given.{refused}
use Rattle.refusals.proofs.Chains.{refused_one}
use mathlib.Core.Path.{◌≡◌, refl, sym, ◌∙◌, ap}
use mathlib.Core.Bool.{Bool, true, false, cond}
use mathlib.Core.List.{List, [], ◌∷◌, append-nil}
use mathlib.Core.Logic.{◌↔◌}
use Prim.Native.Nat.{ℕ, ◌+◌, ◌≤◌}
use native.Mathlib.Omega.{arith}
use lib.Dec.{eqb, leb}
use lib.ListN.{length}
use borrow.Author.Tests.{eqb-false, ne_eqb}
use Rattle.file_digits.specs.Frame.{line_limit}
use Rattle.file_line.specs.declared.Reading.{Reading}
use Rattle.file_line.specs.declared.Rooms.{Rooms}
use Rattle.file_line.specs.Read.{line_here}
use Rattle.file_line.specs.Walk.{Large}
use Rattle.file_line.proofs.Meaning as line-meaning
use Rattle.file_parts.specs.File.{going, stopped, Both, read_of, finish_of, case_of}
use Rattle.file_parts.specs.Held.{hold_of}
use Rattle.file_text.specs.Refusal.{feeds, TakenLines, RefusedFile, faulty_line, cut_off, frames_missing, last_line}
use Rattle.file_text.proofs.Taken.{Cutting, at_fault, at-end, cutting, taken_read, line_number, fault_read, end_read}
use Rattle.file_text.proofs.Stage.{count_most, Stage, start, counted, capped, rowed, lettered, staged}

-- the bytes after the last line feed, held or too many, are a line that lacks its own
left_over : (t : Reading) (b : ℕ) (d : List ℕ) → case_of (hold_of t [] (b ∷ d)) ≡ refused 11 (t.line + 1)
unfolding case_of hold_of
left_over t b d = go (leb (length {A = ℕ} [] + length (b ∷ d)) line_limit)
  where
    go : (a : Bool) → case_of (cond a (going t (b ∷ d)) (stopped 11 (t.line + 1))) ≡ refused 11 (t.line + 1)
    go true = refl
    go false = refl

module _ (x : Rooms) (file : List ℕ) (n l : ℕ) where
  -- each of the three is refused so
  is_refused : RefusedFile x file n l → case_of (read_of x file).run ≡ refused n l
  unfolding case_of finish_of
  is_refused (faulty_line lines line rest s y k e f j i) =
      ap (λ (b : Both). case_of b.run) (fault_read x file lines s y k line rest n l e f ((line-meaning.judged_exactly s line y n l).1 j))
  is_refused (cut_off lines [] s y k e f some p q) = absurd (some refl)
  is_refused (cut_off lines (b ∷ d) s y k e f some p q) =
      ap (λ (w : Both). case_of w.run) (end_read x file lines s y k (b ∷ d) e f) ∙ left_over s b d ∙ rw (p, q, line_number x lines s y k)
  is_refused (frames_missing s y k h p q) =
      ap (λ (w : Both). case_of w.run) (taken_read x file s y k) ∙ simp (ne_eqb _ _ h) (rw (p, q, line_number x file s y k))

  same : (m at : ℕ) → refused {A = Reading} m at ≡ refused n l → (n ≡ m) × (l ≡ at)
  same m at e = let z = refused_one m at n l e in (sym z.0, sym z.1)

  -- and a refused file is one of them, by what comes after the lines that are taken
  refused_is : case_of (read_of x file).run ≡ refused n l → RefusedFile x file n l
  unfolding case_of finish_of hold_of
  refused_is c = go (cutting x file)
    where
      number : (lines : List ℕ) (s : Reading) (y : Rooms) → TakenLines x lines s y → l ≡ line_here s → l ≡ feeds lines + 1
      number lines s y k i = i ∙ ap (λ (j : ℕ). j + 1) (line_number x lines s y k)

      ends : (s : Reading) (y : Rooms) → TakenLines x file s y → (b : Bool) → eqb s.phase 5 ≡ b → cond b (Ok s) (refused 12 (s.line + 1)) ≡ refused n l → RefusedFile x file n l
      ends s y k true h g = let z : ◌≡◌ {A = ℕ} 0 1 = cc in absurd (omega arith)
      ends s y k false h g = let i = same 12 (line_here s) g in frames_missing s y k (eqb-false _ _ h) i.0 (number file s y k i.1)

      go : Cutting x file → RefusedFile x file n l
      go (at_fault lines line rest s y m at k e f j) =
          let i = same m at (sym (ap (λ (u : Both). case_of u.run) (fault_read x file lines s y k line rest m at e f j)) ∙ c) in
          let p = (line-meaning.judged_number s line y m at j).2 in
          faulty_line lines line rest s y k e f ((line-meaning.judged_exactly s line y n l).0 (j ∙ rw (i.0, i.1))) (number lines s y k (i.1 ∙ p))
      go (at-end lines (b ∷ d) s y k e f) =
          let i = same 11 (line_here s) (sym (left_over s b d) ∙ sym (ap (λ (u : Both). case_of u.run) (end_read x file lines s y k (b ∷ d) e f)) ∙ c) in
          cut_off lines (b ∷ d) s y k e f (λ z. let o : ◌≡◌ {A = ℕ} 0 1 = cc in omega arith) i.0 (number lines s y k i.1)
      go (at-end lines [] s y k e f) =
          let g : TakenLines x file s y = rw (e, append-nil) k in
          let a : finish_of s ≡ refused n l = sym (ap (λ (u : Both). case_of u.run) (end_read x file lines s y k [] e f)) ∙ c in
          ends s y g (eqb s.phase 5) refl a

  -- "exactly when", for the whole file
  pub refused_means : (case_of (read_of x file).run ≡ refused n l) ↔ RefusedFile x file n l
  refused_means = (refused_is, is_refused)

-- however long a file is, it is refused at the latest on line 1,093, so that no line number comes near what four bytes hold
module _ (x : Rooms) (big : Large x) where
  lines_few : (lines : List ℕ) (s : Reading) (y : Rooms) → TakenLines x lines s y → line_here s ≤ last_line
  lines_few lines s y k = go (staged x big lines s y k)
    where
      by : (t : Reading) → s ≡ t → line_here t ≤ last_line → line_here s ≤ last_line
      by t e h = rw e h

      go : Stage x s y lines → line_here s ≤ last_line
      go (start a b f) = by _ a (omega arith)
      go (counted P T g h i j a b f) = by _ a (omega arith)
      go (capped P T caps marks g h i j k l m n a b f) = by _ a (let c = count_most marks in omega arith)
      go (rowed net n initial r h a b f) = by _ a (let z = r.few_transitions in let c = count_most net.marks in omega arith)
      go (lettered net initial w l a b f) = by _ a (let z = l.rowed.few_transitions in let u = l.short in let c = count_most net.marks in omega arith)

  pub refused_early : (file : List ℕ) (n l : ℕ) → RefusedFile x file n l → l ≤ last_line
  refused_early file n l (faulty_line lines line rest s y k e f j i) = let z = lines_few lines s y k in omega (arith, line_number x lines s y k)
  refused_early file n l (cut_off lines line s y k e f some p q) = let z = lines_few lines s y k in omega (arith, line_number x lines s y k)
  refused_early file n l (frames_missing s y k h p q) = let z = lines_few file s y k in omega (arith, line_number x file s y k)
