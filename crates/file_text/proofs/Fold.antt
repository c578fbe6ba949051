-- What holds at every byte of a file's fold: the state is good, it counts the lines, and the rooms keep their lengths. Assumes nothing.
use Rattle.std.specs.Prelude.{Ok, Err}
use Rattle.refusals.specs.Given.{Fault}
use mathlib.Core.Path.{◌≡◌, refl, ◌∙◌, subst}
use mathlib.Core.Bool.{Bool, true, false, cond}
use mathlib.Core.List.{List, [], ◌∷◌, ◌++◌}
use Prim.Native.Nat.{ℕ, ◌+◌, ◌*◌, ◌≤◌}
use native.Mathlib.Omega.{arith}
use lib.ListN.{length}
use lib.Seq.{length-sets}
use lib.Dec.{eqb, ltb}
use Rattle.file_digits.specs.Frame.{line_limit, line_feed, byte_at, bytes_from, words_from}
use Rattle.file_mask.specs.Mask.{bits_of, mask_in}
use Rattle.file_row.specs.Row.{is_row, takes_in, puts_in}
use Rattle.file_line.specs.declared.Reading.{Reading}
use Rattle.file_line.specs.declared.Rooms.{Rooms}
use Rattle.file_line.specs.Read.{fresh, line_of, rooms_of, judge_of, advanced_kind, stored, stored_kind, letters_in}
use Rattle.file_line.specs.Walk.{Good}
use Rattle.file_line.proofs.Meaning.{judged_number, taken_line, refused_line}
use Rattle.file_line.proofs.Accept.{accepted, good_advanced}
use Rattle.file_parts.specs.File.{Run, going, stopped, Both, both, ended, fed_to, feed_of, feed_all, read_of}
use Rattle.file_parts.proofs.Line.{Same}
use Rattle.file_text.specs.Refusal.{feeds}

-- after k line feeds
abbrev pub LinesCounted : ℕ → Run → Type 0
LinesCounted k (going s d) = (Good s) × (s.line ≡ k)
LinesCounted k (stopped n l) = (1 ≤ l) × (l ≤ k + 1)

pub record Fed (x : Rooms) (k : ℕ) (z : Both) : Type 0 where
  pub same : Same z.rooms x
  pub counted : LinesCounted k z.run

same_own : (x : Rooms) → Same x x
same_own x = record { caps = refl; marks = refl; initial = refl; pre = refl; post = refl; word = refl }

same_on : (x y z : Rooms) → Same x y → Same y z → Same x z
same_on x y z a b = record { caps = a.caps ∙ b.caps; marks = a.marks ∙ b.marks; initial = a.initial ∙ b.initial; pre = a.pre ∙ b.pre; post = a.post ∙ b.post; word = a.word ∙ b.word }

-- an accepted line is one line more
advanced_line : (s : Reading) (d : List ℕ) (k : ℕ) → (advanced_kind k s d).line ≡ s.line + 1
unfolding advanced_kind
advanced_line s d k = go (eqb k 1) (is_row k) (eqb k 5) _ _ _ _ refl refl refl refl
  where
    go : (a b c : Bool) (t u v w : Reading) → t.line ≡ s.line + 1 → u.line ≡ s.line + 1 → v.line ≡ s.line + 1 → w.line ≡ s.line + 1 → (cond a t (cond b u (cond c v w))).line ≡ s.line + 1
    go true b c t u v w e f g h = e
    go false true c t u v w e f g h = f
    go false false true t u v w e f g h = g
    go false false false t u v w e f g h = h

-- its stores keep the lengths
stored_same : (s : Reading) (d : List ℕ) (x : Rooms) (k : ℕ) → Same (stored_kind k s d x) x
unfolding stored_kind
stored_same s d x k =
    go (eqb k 2) (eqb k 3) (is_row k) (eqb k 5) (eqb k 6) _ _ _ _ _
    (record { caps = length-sets x.caps 0 (words_from d 1 s.places); marks = length-sets x.marks 0 (bits_of 0 s.places); initial = refl; pre = refl; post = refl; word = refl })
    (record { caps = refl; marks = refl; initial = length-sets x.initial 0 (words_from d 1 s.places); pre = refl; post = refl; word = refl })
    (record { caps = refl; marks = refl; initial = refl; pre = length-sets x.pre (s.next * s.places) (takes_in k d s.places); post = length-sets x.post (s.next * s.places) (puts_in k d s.places); word = refl })
    (record { caps = refl; marks = refl; initial = refl; pre = refl; post = refl; word = length-sets x.word s.letters (bytes_from d 1 (letters_in d)) })
    (record { caps = refl; marks = length-sets x.marks 0 (bits_of (mask_in d) s.places); initial = refl; pre = refl; post = refl; word = refl })
  where
    go : (a b c e f : Bool) (t u v w z : Rooms) → Same t x → Same u x → Same v x → Same w x → Same z x → Same (cond a t (cond b u (cond c v (cond e w (cond f z x))))) x
    go true b c e f t u v w z p q r m n = p
    go false true c e f t u v w z p q r m n = q
    go false false true e f t u v w z p q r m n = r
    go false false false true f t u v w z p q r m n = m
    go false false false false true t u v w z p q r m n = n
    go false false false false false t u v w z p q r m n = same_own x

-- so does what a refused line leaves
kept_same : (s : Reading) (d : List ℕ) (y : Rooms) (b : Bool) → Same (cond b (stored s d y) y) y
kept_same s d y true = stored_same s d y (byte_at d 0)
kept_same s d y false = same_own y

-- a line
line_fed : (s : Reading) (d : List ℕ) (y : Rooms) → Good s → Fed y (s.line + 1) (both (ended (line_of s d y)) (rooms_of s d y))
line_fed s d y g = go (judge_of s d y) refl
  where
    go : (f : Fault) → judge_of s d y ≡ f → Fed y (s.line + 1) (both (ended (line_of s d y)) (rooms_of s d y))
    go (Ok _) j =
        let l = taken_line s d y j in
        rw (l.0, l.1) (record { same = stored_same s d y (byte_at d 0); counted = (good_advanced s d g (accepted s d y j), advanced_line s d (byte_at d 0)) })
    go (Err r) j =
        let l = refused_line s d y r.number r.at j in
        let z = (judged_number s d y r.number r.at j).2 in
        rw (l.0, l.1) (record { same = kept_same s d y (eqb r.number 17); counted = (omega (arith, z), omega (arith, z)) })

-- a byte
fed_run : (k : ℕ) (r : Run) (y : Rooms) → LinesCounted k r → (b : ℕ) → Fed y (k + cond (eqb b line_feed) 1 0) (fed_to r y b)
unfolding fed_to
fed_run k (stopped n l) y h b = record { same = same_own y; counted = (h.0, omega (arith, h.1)) }
fed_run k (going s d) y h b = go (eqb b line_feed) (ltb (length d) line_limit)
  where
    go : (a c : Bool)
        → Fed y (k + cond a 1 0)
        (cond a (both (ended (line_of s d y)) (rooms_of s d y)) (cond c (both (going s (d ++ (b ∷ []))) y) (both (stopped 11 (s.line + 1)) y)))
    go true c = let e : k + 1 ≡ s.line + 1 = omega (arith, h.1) in rw e (line_fed s d y h.0)
    go false true = record { same = same_own y; counted = (h.0, omega (arith, h.1)) }
    go false false = record { same = same_own y; counted = (omega arith, omega (arith, h.1)) }

-- any bytes
fed_all_lem : (x : Rooms) (bs : List ℕ) (z : Both) (k : ℕ) → Fed x k z → Fed x (k + feeds bs) (feed_all z bs)
unfolding feed_all feeds
fed_all_lem x [] z k f = let e : k + 0 ≡ k = omega arith in rw e f
fed_all_lem x (b ∷ bs) z k f =
    let g = fed_run k z.run z.rooms f.counted b in
    let e : k + cond (eqb b line_feed) 1 0 + feeds bs ≡ k + (cond (eqb b line_feed) 1 0 + feeds bs) = omega arith in
    subst (λ (n : ℕ). Fed x n (feed_all (feed_of z b) bs)) e
    (fed_all_lem x bs (feed_of z b) (k + cond (eqb b line_feed) 1 0) (record { same = same_on _ _ _ g.same f.same; counted = g.counted }))

good_fresh : Good fresh
good_fresh =
    record {
      phase_least = omega arith;
      phase = omega arith;
      places = omega arith;
      transitions = omega arith;
      some = λ h. absurd (omega arith);
      some_places = λ h. absurd (omega arith);
      next = omega arith;
      rows = λ h. absurd (omega arith);
      early = λ h. refl;
      wordless = λ h. refl;
      pockets = λ h. absurd (omega arith);
      letters = omega arith;
      line_early = λ h. omega arith;
      line = omega arith;
    }

pub fed_file : (x : Rooms) (file : List ℕ) → Fed x (feeds file) (read_of x file)
fed_file x file =
    let e : 0 + feeds file ≡ feeds file = omega arith in
    subst (λ (n : ℕ). Fed x n (read_of x file)) e
    (fed_all_lem x file (both (going fresh []) x) 0 (record { same = same_own x; counted = (good_fresh, refl) }))
