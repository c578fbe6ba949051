-- Accepted exactly if the file is the frames of a net and word within the limits, and then net and word are those. Assumes nothing.
use Rattle.std.specs.Prelude.{Ok, Err}
use Rattle.refusals.specs.Given.{refusal, refused}
use mathlib.Core.Path.{◌≡◌, refl, sym, ◌∙◌, ap}
use mathlib.Core.Bool.{Bool, true, false, cond}
use mathlib.Core.List.{List, [], ◌∷◌, ◌++◌}
use mathlib.Core.Logic.{◌↔◌, ◌⊎◌, inl, inr, ⊎_elim}
use Prim.Native.Nat.{ℕ, ◌+◌, ◌*◌, ◌≤◌}
use native.Mathlib.Omega.{arith}
use native.Mathlib.Nat.{mul-le-mul}
use lib.Dec.{eqb}
use lib.ListN.{length, drop, replicate, length-replicate}
use borrow.Author.Tests.{eqb-true, eqb-false}
use Rattle.ground.specs.Limits.{no_capacity, weight_limit, word_limit}
use Rattle.file_put.specs.Put.{digit_of, digits_of, twos}
use Rattle.ground.specs.Lists.{tally}
use Rattle.weights.specs.Heavy.{row_over}
use Rattle.file_row.specs.Row.{row_kind, weights_text}
use Rattle.file_mask.specs.Mask.{Bits, mask_of}
use Rattle.file_mask.proofs.Masks.{mask_filed}
use Rattle.net.specs.Net.{Net, net_of, Sized, Light}
use Rattle.net.specs.Letter.{Small}
use Rattle.wiring.specs.Wired.{Wired}
use Rattle.refusals.specs.Given.{Fine}
use Rattle.replay.specs.Entry.{Allowed}
use Rattle.file_line.specs.declared.Reading.{Reading}
use Rattle.file_line.specs.declared.Rooms.{Rooms}
use Rattle.file_line.specs.Read.{cell_limit, rooms, fresh, net_in, judge_of, line_of}
use Rattle.file_line.specs.Walk.{Large}
use Rattle.file_line.proofs.Order.{formed_07, formed_row}
use Rattle.file_line.proofs.Meaning.{refused_line, judged_number, one_on_01, heavy_exactly, three_on_03, wired_exactly}
use Rattle.file_parts.specs.File.{Case, Run, going, stopped, Both, both, read_of, finish_of, case_of}
use Rattle.file_text.specs.Text.{pockets_lines, pockets_count, letters_line, letters_lines, joined, file_of, Limited, Written, marking_in, word_in, end_of, filled, filed}
use Rattle.file_digits.proofs.Bytes.{below_of, of_below, below_most}
use Rattle.file_text.proofs.Fronts.{front_of, rest_of}
use Rattle.file_text.proofs.Taken.{read_taken}
use Rattle.file_text.proofs.Stage.{Rowed, Listed, held_net_lem, capped_state, phase_either, plain_phase, plain_count, pocket_phase, pocket_count, Stage, start, counted, capped, rowed, lettered, staged}
use Rattle.file_text.proofs.Whole.{whole, loose_read}

-- the limits, entry by entry and list by list
rowed_of : (net : Net) (initial : List ℕ) → Sized net → Light net → Small no_capacity net.caps → Bits net.marks → length initial ≡ net.places → Fine net.caps initial → Rowed net net.transitions initial
rowed_of net initial sized weights capacities bits marked fine =
    record {
      some_places = sized.some_places;
      few_places = sized.few_places;
      some_transitions = sized.some_transitions;
      few_transitions = sized.few_transitions;
      capped = sized.capped;
      capacities = below_of 65536 net.caps (λ k h. let z = capacities.at k in omega arith);
      noted = sized.noted;
      bits = bits;
      marked = marked;
      fine = fine;
      pres = sized.pres;
      posts = sized.posts;
      takes = below_of (weight_limit + 1) net.pre (λ k h. let z = weights.pre k in omega arith);
      puts = below_of (weight_limit + 1) net.post (λ k h. let z = weights.post k in omega arith);
    }

listed : (net : Net) (initial w : List ℕ) → Limited net initial w → Listed net initial w
listed net initial w m =
    record {
      rowed = rowed_of net initial m.sized m.weights m.capacities m.bits m.marked m.fine;
      wired = m.wired;
      short = m.short;
      letters = below_of net.transitions w m.letters.at;
    }

limited : (net : Net) (initial w : List ℕ) → Listed net initial w → Limited net initial w
limited net initial w l =
    record {
      sized = record {
        some_places = l.rowed.some_places;
        few_places = l.rowed.few_places;
        some_transitions = l.rowed.some_transitions;
        few_transitions = l.rowed.few_transitions;
        pres = l.rowed.pres;
        posts = l.rowed.posts;
        capped = l.rowed.capped;
        noted = l.rowed.noted;
      };
      wired = l.wired;
      weights = record { pre = λ k. below_most weight_limit net.pre k l.rowed.takes; post = λ k. below_most weight_limit net.post k l.rowed.puts };
      capacities = record { at = λ k. below_most no_capacity net.caps k l.rowed.capacities };
      bits = l.rowed.bits;
      marked = l.rowed.marked;
      fine = l.rowed.fine;
      short = l.short;
      letters = record { at = λ k h. of_below net.transitions w k l.letters h };
    }

-- what is within the limits is refused by no replay
pub limited_allowed : (net : Net) (initial w room : List ℕ) → Limited net initial w → length room ≡ net.places → Allowed net initial w true room
limited_allowed net initial w room m h = record { sized = m.sized; light = m.weights; marked = m.marked; roomy = h; inside = refl; fine = m.fine; wired = m.wired; short = m.short; letters = m.letters }

-- a whole file, by the state that it ends in
whole_case : (r : Run) (s : Reading) → case_of r ≡ Ok s → (r ≡ going s []) × (s.phase ≡ 5)
unfolding case_of finish_of
whole_case (going t []) s e = go (eqb t.phase 5) refl e where
  go : (b : Bool) → eqb t.phase 5 ≡ b → cond b (Ok t) (refused 12 (t.line + 1)) ≡ Ok s → (going t [] ≡ going s []) × (s.phase ≡ 5)
  go true q f = let i : t ≡ s = cc in (ap (λ (u : Reading). going u []) i, sym (ap (λ (u : Reading). u.phase) i) ∙ eqb-true _ _ q)
  go false q f = let z : ◌≡◌ {A = ℕ} 0 1 = cc in absurd (omega arith)
whole_case (going t (b ∷ d)) s e = let z : ◌≡◌ {A = ℕ} 0 1 = cc in absurd (omega arith)
whole_case (stopped n l) s e = let z : ◌≡◌ {A = ℕ} 0 1 = cc in absurd (omega arith)

-- the fronts of rooms that were filled, and the rest of them
module _ (x : Rooms) (big : Large x) (net : Net) (initial w : List ℕ) (m : Limited net initial w) where
  cells : net.transitions * net.places ≤ cell_limit
  cells = mul-le-mul m.sized.few_transitions m.sized.few_places

  pub filled_net : net_in (end_of net w) (filled x net initial w) ≡ net
  filled_net = held_net_lem x big net net.transitions initial w (listed net initial w m).rowed refl (end_of net w) refl refl

  pub filled_marking : marking_in (end_of net w) (filled x net initial w) ≡ initial
  filled_marking = front_of initial x.initial net.places m.marked (omega (arith, m.sized.few_places, big.initial))

  pub filled_word : word_in (end_of net w) (filled x net initial w) ≡ w
  filled_word = front_of w x.word (length w) refl (omega (arith, m.short, big.word))

  -- on success the net's own entries stand at their front and the rest is as found
  pub filled_rest : (drop net.places (filled x net initial w).caps ≡ drop net.places x.caps)
      × (drop net.places (filled x net initial w).marks ≡ drop net.places x.marks)
      × (drop net.places (filled x net initial w).initial ≡ drop net.places x.initial)
      × (drop (net.transitions * net.places) (filled x net initial w).pre ≡ drop (net.transitions * net.places) x.pre)
      × (drop (net.transitions * net.places) (filled x net initial w).post ≡ drop (net.transitions * net.places) x.post)
      × (drop (length w) (filled x net initial w).word ≡ drop (length w) x.word)
  filled_rest = (
    rest_of net.caps x.caps net.places m.sized.capped (omega (arith, m.sized.few_places, big.caps)),
    rest_of net.marks x.marks net.places m.sized.noted (omega (arith, m.sized.few_places, big.marks)),
    rest_of initial x.initial net.places m.marked (omega (arith, m.sized.few_places, big.initial)),
    rest_of net.pre x.pre (net.transitions * net.places) m.sized.pres (omega (arith, cells, big.pre)),
    rest_of net.post x.post (net.transitions * net.places) m.sized.posts (omega (arith, cells, big.post)),
    rest_of w x.word (length w) refl (omega (arith, m.short, big.word)),
  )

  -- the file of a net, its marking and a word within the limits is accepted, and they stand in the rooms
  pub file_read : (case_of (read_of x (file_of net initial w)).run ≡ Ok (end_of net w)) × ((read_of x (file_of net initial w)).rooms ≡ filled x net initial w)
  unfolding case_of finish_of
  file_read =
      let e = whole x big net initial w (listed net initial w m) in
      (ap (λ (z : Both). case_of z.run) e, ap (λ (z : Both). z.rooms) e)

-- "refused .. in a file, on the line of the last transition": the file of a net that is within the limits but for a loose node, whatever its word is
pub loose_refused : (x : Rooms) → Large x → (net : Net) (initial w : List ℕ) → Sized net → Light net → Small no_capacity net.caps → Bits net.marks → length initial ≡ net.places → Fine net.caps initial
    → (Wired net → ⊥) → case_of (read_of x (file_of net initial w)).run ≡ refused 17 (3 + pockets_count net.marks + net.transitions)
unfolding case_of file_of
loose_refused x big net initial w sized weights capacities bits marked fine loose =
    ap case_of (loose_read x big net initial (rowed_of net initial sized weights capacities bits marked fine) loose (joined (letters_line w) (letters_lines (length w))))

-- the other way: an accepted file is the file of what stands in the rooms
module _ (x : Rooms) (big : Large x) (file : List ℕ) where
  found : (s : Reading) → case_of (read_of x file).run ≡ Ok s → Written file
  found s e = go (staged x big file s (read_of x file).rooms (read_taken x file s (read_of x file).rooms (ap (λ (r : Run). both r (read_of x file).rooms) (whole_case (read_of x file).run s e).0)))
    where
      early : {A : Type 0} (t : Reading) → s ≡ t → (t.phase ≡ 5 → ⊥) → A
      early t q h = absurd (h (sym (ap (λ (u : Reading). u.phase) q) ∙ (whole_case (read_of x file).run s e).1))

      go : Stage x s (read_of x file).rooms file → Written file
      go (start a b f) = early fresh a (λ z. omega arith)
      go (counted P T g h i j a b f) = early _ a (λ z. omega arith)
      go (capped P T caps marks g h i j k l m n a b f) = early _ a (λ z. ⊎_elim (λ q. omega arith) (λ q. omega arith) (phase_either marks))
      go (rowed net n initial r h a b f) = early _ a (λ z. omega arith)
      go (lettered net initial w l a b f) = record { net = net; initial = initial; word = w; limited = limited net initial w l; text = f }

  -- net, marking and word are those of the file, whichever way they were found
  pub those : (s : Reading) → case_of (read_of x file).run ≡ Ok s → (f : Written file)
      → (net_in s (read_of x file).rooms ≡ f.net) × (marking_in s (read_of x file).rooms ≡ f.initial) × (word_in s (read_of x file).rooms ≡ f.word)
  those s e f =
      let r = file_read x big f.net f.initial f.word f.limited in
      let a : case_of (read_of x file).run ≡ Ok (end_of f.net f.word) = ap (λ (l : List ℕ). case_of (read_of x l).run) f.text ∙ r.0 in
      let y : (read_of x file).rooms ≡ filled x f.net f.initial f.word = ap (λ (l : List ℕ). (read_of x l).rooms) f.text ∙ r.1 in
      let i : s ≡ end_of f.net f.word = cc in (
        ap (λ (u : Reading). net_in u (read_of x file).rooms) i ∙ ap (net_in (end_of f.net f.word)) y ∙ filled_net x big f.net f.initial f.word f.limited,
        ap (λ (u : Reading). marking_in u (read_of x file).rooms) i ∙ ap (marking_in (end_of f.net f.word)) y ∙ filled_marking x big f.net f.initial f.word f.limited,
        ap (λ (u : Reading). word_in u (read_of x file).rooms) i ∙ ap (word_in (end_of f.net f.word)) y ∙ filled_word x big f.net f.initial f.word f.limited,
      )

  pub read_file : (s : Reading) → case_of (read_of x file).run ≡ Ok s
      → (file ≡ file_of (net_in s (read_of x file).rooms) (marking_in s (read_of x file).rooms) (word_in s (read_of x file).rooms))
      × Limited (net_in s (read_of x file).rooms) (marking_in s (read_of x file).rooms) (word_in s (read_of x file).rooms)
  read_file s e =
      let f = found s e in
      let t = those s e f in
      rw (t.0, t.1, t.2) (f.text, f.limited)

  -- Accepted exactly if the file is the frames of a net and word within the limits
  pub accepted_exactly : ((s : Reading) × (case_of (read_of x file).run ≡ Ok s)) ↔ Written file
  accepted_exactly = (
    λ a. found a.0 a.1,
    λ f. (end_of f.net f.word, ap (λ (l : List ℕ). case_of (read_of x l).run) f.text ∙ (file_read x big f.net f.initial f.word f.limited).0),
  )

  -- every other file is refused, with one number and line
  pub refused_otherwise : (Written file → ⊥) → (n : ℕ) × (l : ℕ) × (case_of (read_of x file).run ≡ refused n l)
  refused_otherwise no_net = go (case_of (read_of x file).run) refl
    where
      go : (c : Case) → case_of (read_of x file).run ≡ c → (n : ℕ) × (l : ℕ) × (case_of (read_of x file).run ≡ refused n l)
      go (Ok s) e = absurd (no_net (found s e))
      go (Err r) e = (r.number, r.at, e)

pub one_answer : (x : Rooms) (file : List ℕ) (a b : Case) → case_of (read_of x file).run ≡ a → case_of (read_of x file).run ≡ b → a ≡ b
one_answer x file a b p q = sym p ∙ q

-- how many lines were read, by the kind that must come next: before 01 none; before the 03 two, or three after a 06; before a row also those that were read
record LinesSoFar (s : Reading) (y : Rooms) : Type 0 where
  first : s.phase ≡ 1 → s.line ≡ 0
  plain : s.phase ≡ 6 → s.line ≡ 2
  pocketed : s.phase ≡ 3 → s.line ≡ 3
  rows : s.phase ≡ 4 → s.line ≡ 3 + pockets_count (net_in s y).marks + s.next

-- where the lines before were taken, the kind that must come next tells which line it is: 1 falls on line 1, 3 on line 3, or 4 after a 06, and 17 on that
-- of the last transition
module _ (x : Rooms) (big : Large x) (lines : List ℕ) (s : Reading) (y : Rooms) (before : read_of x lines ≡ both (going s []) y) (d : List ℕ) where
  lines_so_far : LinesSoFar s y
  lines_so_far = go (staged x big lines s y (read_taken x lines s y before))
    where
      by : (t : Reading) (z : Rooms) → s ≡ t → y ≡ z → LinesSoFar t z → LinesSoFar s y
      by t z e f h = rw (e, f) h

      none_of : {t : Reading} {z : Rooms} → (t.phase ≡ 1 → ⊥) → (t.phase ≡ 6 → ⊥) → (t.phase ≡ 3 → ⊥) → (t.phase ≡ 4 → ⊥) → LinesSoFar t z
      none_of a b c d = record { first = λ q. absurd (a q); plain = λ q. absurd (b q); pocketed = λ q. absurd (c q); rows = λ q. absurd (d q) }

      after_caps : (P T : ℕ) (marks : List ℕ) (z : Rooms) → LinesSoFar (capped_state P T marks) z
      after_caps P T marks z = at (eqb (mask_of marks) 0) refl
        where
          at : (t : Bool) → eqb (mask_of marks) 0 ≡ t → LinesSoFar (capped_state P T marks) z
          at true t =
              let m : mask_of marks ≡ 0 = eqb-true _ _ t in
              let p = plain_phase marks m in
              let c = plain_count marks m in
              record { first = λ q. absurd (omega arith); plain = λ q. omega arith; pocketed = λ q. absurd (omega arith); rows = λ q. absurd (omega arith) }
          at false t =
              let m : mask_of marks ≡ 0 → ⊥ = eqb-false _ _ t in
              let p = pocket_phase marks m in
              let c = pocket_count marks m in
              record { first = λ q. absurd (omega arith); plain = λ q. absurd (omega arith); pocketed = λ q. omega arith; rows = λ q. absurd (omega arith) }

      go : Stage x s y lines → LinesSoFar s y
      go (start a b f) = by _ _ a b (record { first = λ q. refl; plain = λ q. absurd (omega arith); pocketed = λ q. absurd (omega arith); rows = λ q. absurd (omega arith) })
      go (counted P T g h i j a b f) = by _ _ a b (none_of (λ q. omega arith) (λ q. omega arith) (λ q. omega arith) (λ q. omega arith))
      go (capped P T caps marks g h i j k l m n a b f) = by _ _ a b (after_caps P T marks _)
      go (rowed net n initial r h a b f) =
          by _ _ a b
          (record {
            first = λ q. absurd (omega arith);
            plain = λ q. absurd (omega arith);
            pocketed = λ q. absurd (omega arith);
            rows = λ q. rw (front_of net.marks x.marks net.places r.noted (omega (arith, r.few_places, big.marks)));
          })
      go (lettered net initial w l a b f) = by _ _ a b (none_of (λ q. omega arith) (λ q. omega arith) (λ q. omega arith) (λ q. omega arith))

  pub one_on_line_1 : (at : ℕ) → judge_of s d y ≡ Err (refusal 1 at) → line_of s d y ≡ refused 1 1
  one_on_line_1 at e =
      let l : at ≡ 1 = let z = lines_so_far.first (one_on_01 s d y at e).0 in omega (arith, (judged_number s d y 1 at e).2) in
      (refused_line s d y 1 at e).0 ∙ rw l

  pub three_on_line_3 : (at : ℕ) → judge_of s d y ≡ Err (refusal 3 at) → ((s.phase ≡ 6) × (line_of s d y ≡ refused 3 3)) ⊎ ((s.phase ≡ 3) × (line_of s d y ≡ refused 3 4))
  three_on_line_3 at e =
      ⊎_elim
      (λ p. let l : at ≡ 3 = let z = lines_so_far.plain p in omega (arith, (judged_number s d y 3 at e).2) in inl (p, (refused_line s d y 3 at e).0 ∙ rw l))
      (λ p. let l : at ≡ 4 = let z = lines_so_far.pocketed p in omega (arith, (judged_number s d y 3 at e).2) in inr (p, (refused_line s d y 3 at e).0 ∙ rw l))
      (three_on_03 s d y at e).0

  pub seventeen_on_last_row : (at : ℕ) → judge_of s d y ≡ Err (refusal 17 at) → line_of s d y ≡ refused 17 (3 + pockets_count (net_in s y).marks + s.transitions)
  seventeen_on_last_row at e =
      let w = (wired_exactly s d y at).0 e in
      let l : at ≡ 3 + pockets_count (net_in s y).marks + s.transitions = let z = lines_so_far.rows (formed_row s d w.1 w.3).0 in omega (arith, w.4, w.6) in
      (refused_line s d y 17 at e).0 ∙ rw l

  -- "in a file it falls on that 07": 18 on the line of the transition whose weight is over 4,095
  pub eighteen_on_its_row : (at : ℕ) → judge_of s d y ≡ Err (refusal 18 at) → line_of s d y ≡ refused 18 (3 + pockets_count (net_in s y).marks + s.next + 1)
  eighteen_on_its_row at e =
      let w = (heavy_exactly s d y at).0 e in
      let l : at ≡ 3 + pockets_count (net_in s y).marks + s.next + 1 = let z = lines_so_far.rows (formed_07 s d w.1 w.2).0 in omega (arith, w.4) in
      (refused_line s d y 18 at e).0 ∙ rw l

-- rooms that are large enough, to read into
blank : ℕ → Rooms
blank n = rooms (replicate n 0) (replicate n 0) (replicate n 0) (replicate n 0) (replicate n 0) (replicate n 0)

large_blank : (n : ℕ) → word_limit ≤ n → Large (blank n)
unfolding blank
large_blank n h =
    let e : length {A = ℕ} (replicate n 0) ≡ n = length-replicate n 0 in
    record { caps = omega arith; marks = omega arith; initial = omega arith; pre = omega arith; post = omega arith; word = omega arith }

-- "0 plain, any other pocket, all alike; the file reader gives 1": a net is written as it stands in its file
pub file_filed : (net : Net) (initial w : List ℕ) → file_of (filed net) initial w ≡ file_of net initial w
unfolding file_of pockets_lines
file_filed net initial w = rw (mask_filed net.marks)

-- no two nets, markings and words within the limits have one file
pub file_apart : (file : List ℕ) (a b : Written file) → (a.net ≡ b.net) × (a.initial ≡ b.initial) × (a.word ≡ b.word)
file_apart file a b = go (blank word_limit) (large_blank word_limit (omega arith))
  where
    go : (x : Rooms) → Large x → (a.net ≡ b.net) × (a.initial ≡ b.initial) × (a.word ≡ b.word)
    go x big =
        let e = (accepted_exactly x big file).1 a in
        let p = those x big file e.0 e.1 a in
        let q = those x big file e.0 e.1 b in
        (sym p.0 ∙ q.0, sym p.1 ∙ q.1, sym p.2 ∙ q.2)

-- the whole case of document 01
pub sample_file : file_of (net_of 3 3 (1 ∷ 0 ∷ 0 ∷ 0 ∷ 1 ∷ 0 ∷ 0 ∷ 0 ∷ 3 ∷ []) (0 ∷ 1 ∷ 0 ∷ 1 ∷ 0 ∷ 2 ∷ 0 ∷ 0 ∷ 0 ∷ []) (no_capacity ∷ no_capacity ∷ 5 ∷ []) (0 ∷ 0 ∷ 0 ∷ [])) (1 ∷ 0 ∷ 0 ∷ []) (0 ∷ 1 ∷ 0 ∷ 1 ∷ 2 ∷ [])
    ≡
    (48 ∷ 49 ∷ 48 ∷ 51 ∷ 48 ∷ 51 ∷ 10 ∷ [])
    ++ (48 ∷ 50 ∷ 70 ∷ 70 ∷ 70 ∷ 70 ∷ 70 ∷ 70 ∷ 70 ∷ 70 ∷ 48 ∷ 48 ∷ 48 ∷ 53 ∷ 10 ∷ [])
    ++ (48 ∷ 51 ∷ 48 ∷ 48 ∷ 48 ∷ 49 ∷ 48 ∷ 48 ∷ 48 ∷ 48 ∷ 48 ∷ 48 ∷ 48 ∷ 48 ∷ 10 ∷ [])
    ++ (48 ∷ 52 ∷ 48 ∷ 48 ∷ 48 ∷ 49 ∷ 48 ∷ 48 ∷ 48 ∷ 48 ∷ 48 ∷ 48 ∷ 48 ∷ 49 ∷ 48 ∷ 48 ∷ 10 ∷ [])
    ++ (48 ∷ 52 ∷ 48 ∷ 49 ∷ 48 ∷ 48 ∷ 48 ∷ 49 ∷ 48 ∷ 48 ∷ 48 ∷ 49 ∷ 48 ∷ 48 ∷ 48 ∷ 50 ∷ 10 ∷ [])
    ++ (48 ∷ 52 ∷ 48 ∷ 50 ∷ 48 ∷ 48 ∷ 48 ∷ 48 ∷ 48 ∷ 51 ∷ 48 ∷ 48 ∷ 48 ∷ 48 ∷ 48 ∷ 48 ∷ 10 ∷ [])
    ++ (48 ∷ 53 ∷ 48 ∷ 48 ∷ 48 ∷ 49 ∷ 48 ∷ 48 ∷ 48 ∷ 49 ∷ 48 ∷ 50 ∷ 10 ∷ [])
unfolding file_of pockets_lines mask_of twos row_kind weights_text row_over tally joined digits_of digit_of
sample_file = refl
