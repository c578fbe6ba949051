-- The file of a net, its marking and a word, fed line by line. Assumes nothing.
use mathlib.Core.Path.{◌≡◌, refl, sym, ◌∙◌, ap, subst}
use mathlib.Core.Bool.{Bool, true, false, cond}
use mathlib.Core.List.{List, [], ◌∷◌, ◌++◌, append_assoc, append-nil}
use Prim.Native.Nat.{ℕ, zero, suc, ◌+◌, ◌*◌, ◌≤◌, ◌<◌}
use native.Mathlib.Omega.{arith}
use native.Mathlib.Nat.{suc-mul, zero-mul}
use native.Mathlib.Numerals.{add-one}
use lib.Dec.{eqb}
use lib.ListN.{length, take, drop, length-append, length-take, length-drop}
use lib.Seq.{sets, length-take-le, take-add, take_all}
use borrow.Author.Tests.{eq-eqb, ne_eqb, eqb-true, eqb-false}
use Rattle.ground.proofs.Stores.{sets_both}
use Rattle.ground.specs.Limits.{count_limit}
use Rattle.file_digits.specs.Frame.{line_feed, block}
use Rattle.file_put.specs.Put.{digits_of, twos}
use Rattle.net.specs.Net.{Net}
use Rattle.net.specs.Letter.{row}
use Rattle.net.proofs.Rows.{row_end, row_length_lem}
use Rattle.wiring.specs.Wired.{Wired}
use Rattle.refusals.specs.Given.{Fine}
use Rattle.file_row.specs.Row.{row_frame}
use Rattle.file_line.specs.declared.Reading.{Reading}
use Rattle.file_line.specs.declared.Rooms.{Rooms}
use Rattle.file_line.specs.Read.{rooms, fresh, net_in, line_here}
use Rattle.file_line.specs.Walk.{Large}
use Rattle.file_line.proofs.Digits.{rule_all}
use Rattle.file_line.proofs.Meaning as line-meaning
use Rattle.file_parts.specs.File.{going, stopped, Both, both, feed_all}
use Rattle.file_parts.proofs.Line.{all_append, refused_line}
use Rattle.file_mask.specs.Mask.{mask_limit, mask_of, bits_of, above_bits, eight}
use Rattle.file_mask.proofs.Masks.{bits_long, bits_of_mask, bits_as_they_are, mask_small, mask_above}
use Rattle.file_text.specs.Text.{counts_line, caps_line, pockets_lines, pockets_count, row_line, letters_line, letters_lines, joined, file_of, end_of, filled}
use Rattle.file_digits.proofs.Bytes.{below_of, below_take, below_drop}
use Rattle.file_text.proofs.Rules.{no_feed}
use Rattle.file_text.proofs.Fronts.{get_d_sets, sets_again}
use Rattle.file_text.proofs.Lines.{state, fed, takes_counts, takes_caps, takes_pockets, takes_tokens, rows_of, row_formed, takes_row, loose_row, takes_letters}
use Rattle.file_text.proofs.Stage.{Rowed, Listed, held_net_lem, head, capped_rooms, capped_state, phase_either, plain_phase, plain_count, plain_lines, pocket_phase, pocket_count, pocket_lines}

-- the next m entries of a list, stored behind the first i
grows : (l r : List ℕ) (i m : ℕ) → i ≤ length l → sets (sets r 0 (take i l)) i (take m (drop i l)) ≡ sets r 0 (take (i + m) l)
grows l r i m h =
    let q : i ≡ 0 + length (take i l) = let z = length-take-le i l h in omega arith in
    ap (λ (j : ℕ). sets (sets r 0 (take i l)) j (take m (drop i l))) q ∙ sets_both (take i l) (take m (drop i l)) r 0 ∙ ap (sets r 0) (sym (take-add i m l))

-- a line more, after what was fed
then_line : (z : Both) (p f : List ℕ) (u v : Both) → feed_all z p ≡ u → feed_all u f ≡ v → feed_all z (p ++ f) ≡ v
then_line z p f u v a b = all_append z p f ∙ ap (λ (q : Both). feed_all q f) a ∙ b

module _ (x : Rooms) (big : Large x) (net : Net) (initial : List ℕ) (r : Rowed net net.transitions initial) where
  after_counts : feed_all (both (going fresh []) x) (counts_line net.places net.transitions) ≡ both (going (state 2 net.places net.transitions 0 0 1) []) x
  after_counts =
      fed fresh x (1 ∷ net.places ∷ net.transitions ∷ []) _ _
      (takes_counts fresh x net.places net.transitions refl r.some_places r.few_places r.some_transitions r.few_transitions)

  -- the mark of a place in a file is 0 or 1, so that the mask says them all
  marks_of : bits_of (mask_of net.marks) net.places ≡ net.marks
  marks_of = ap (bits_of (mask_of net.marks)) (sym r.noted) ∙ bits_of_mask net.marks ∙ bits_as_they_are net.marks r.bits

  after_caps : feed_all (both (going fresh []) x) (counts_line net.places net.transitions ++ caps_line net.caps)
      ≡ both (going (state 6 net.places net.transitions 0 0 2) []) (capped_rooms x net.caps (bits_of 0 net.places))
  after_caps =
      then_line _ _ _ _ _ after_counts
      (fed (state 2 net.places net.transitions 0 0 1) x (2 ∷ twos net.caps) _ _
      (takes_caps (state 2 net.places net.transitions 0 0 1) x net.caps refl r.few_places r.capped r.capacities))

  after_pockets : feed_all (both (going fresh []) x) (counts_line net.places net.transitions ++ caps_line net.caps ++ pockets_lines net.marks)
      ≡ both (going (capped_state net.places net.transitions net.marks) []) (capped_rooms x net.caps net.marks)
  after_pockets = go (eqb (mask_of net.marks) 0) refl
    where
      go : (t : Bool) → eqb (mask_of net.marks) 0 ≡ t
          → feed_all (both (going fresh []) x) (counts_line net.places net.transitions ++ caps_line net.caps ++ pockets_lines net.marks)
          ≡ both (going (capped_state net.places net.transitions net.marks) []) (capped_rooms x net.caps net.marks)
      go true t =
          let z : mask_of net.marks ≡ 0 = eqb-true _ _ t in
          let m : bits_of 0 net.places ≡ net.marks = ap (λ (n : ℕ). bits_of n net.places) (sym z) ∙ marks_of in
          rw (plain_lines net.marks z, plain_phase net.marks z, plain_count net.marks z)
          (ap (feed_all (both (going fresh []) x)) (append-nil (counts_line net.places net.transitions ++ caps_line net.caps)) ∙ after_caps ∙ rw m)
      go false t =
          let z : mask_of net.marks ≡ 0 → ⊥ = eqb-false _ _ t in
          let few : mask_of net.marks < mask_limit = mask_small net.marks (omega (arith, r.noted, r.few_places)) in
          let above : above_bits (mask_of net.marks) net.places ≡ 0 = ap (above_bits (mask_of net.marks)) (sym r.noted) ∙ mask_above net.marks in
          let kept : sets (sets x.marks 0 (bits_of 0 net.places)) 0 net.marks ≡ sets x.marks 0 net.marks
          = sets_again (bits_of 0 net.places) net.marks x.marks (omega (arith, bits_long 0 net.places, r.noted)) (omega (arith, r.noted, r.few_places, big.marks)) in
          rw (pocket_lines net.marks z, pocket_phase net.marks z, pocket_count net.marks z)
          (then_line _ _ _ _ _ after_caps
          (fed (state 6 net.places net.transitions 0 0 2) (capped_rooms x net.caps (bits_of 0 net.places)) (6 ∷ eight (mask_of net.marks)) _ _
          (takes_pockets (state 6 net.places net.transitions 0 0 2) (capped_rooms x net.caps (bits_of 0 net.places)) (mask_of net.marks) refl few z above))
          ∙ rw (marks_of, kept))

  after_tokens : feed_all (both (going fresh []) x) (head net initial)
      ≡ both (going (state 4 net.places net.transitions 0 0 (3 + pockets_count net.marks)) []) (rooms (sets x.caps 0 net.caps) (sets x.marks 0 net.marks) (sets x.initial 0 initial) x.pre x.post x.word)
  after_tokens =
      let s : Reading = capped_state net.places net.transitions net.marks in
      let y : Rooms = capped_rooms x net.caps net.marks in
      let fine : Fine (sets x.caps 0 net.caps) initial = record {
        few = r.fine.few;
        within = λ k b.
            let e = get_d_sets net.caps x.caps k (omega (arith, r.capped, r.few_places, big.caps)) (omega (arith, r.capped, r.marked)) in
            rw e (r.fine.within k b);
      } in
      let o : 2 + pockets_count net.marks + 1 ≡ 3 + pockets_count net.marks = omega arith in
      then_line _ _ _ _ _ after_pockets
      (fed s y (3 ∷ twos initial) _ _
      (takes_tokens s y initial (phase_either net.marks) r.few_places r.marked
      (below_of 65536 initial (λ k b. let z = r.fine.few.at k in omega arith)) fine))
      ∙ rw o

  -- the rooms after n rows
  rows_kept : ℕ → Rooms
  rows_kept n =
      rooms (sets x.caps 0 net.caps) (sets x.marks 0 net.marks) (sets x.initial 0 initial) (sets x.pre 0 (take (n * net.places) net.pre)) (sets x.post 0 (take (n * net.places) net.post)) x.word

  -- with the last of them the net is in the rooms
  rows_net : (n : ℕ) → n + 1 ≡ net.transitions
      → net_in (state 4 net.places net.transitions n 0 (3 + pockets_count net.marks + n)) (rows_of (state 4 net.places net.transitions n 0 (3 + pockets_count net.marks + n)) (rows_kept n) (row net.places n net.pre) (row net.places n net.post)) ≡ net
  unfolding rows_kept
  rows_net n q =
      let k : suc n ≡ net.transitions = omega arith in
      let m : n * net.places + net.places ≡ net.transitions * net.places = sym (suc-mul n net.places) ∙ ap (λ (i : ℕ). i * net.places) k in
      let u = grows net.pre x.pre (n * net.places) net.places (omega (arith, r.pres)) ∙ ap (λ (i : ℕ). sets x.pre 0 (take i net.pre)) m ∙ ap (sets x.pre 0) (take_all (net.transitions * net.places) net.pre (omega (arith, r.pres))) in
      let v = grows net.post x.post (n * net.places) net.places (omega (arith, r.posts)) ∙ ap (λ (i : ℕ). sets x.post 0 (take i net.post)) m ∙ ap (sets x.post 0) (take_all (net.transitions * net.places) net.post (omega (arith, r.posts))) in
      rw (u, v) (held_net_lem x big net net.transitions initial [] r refl (state 4 net.places net.transitions n 0 (3 + pockets_count net.marks + n)) refl refl)

  after_rows : (n : ℕ) → n ≤ net.transitions → (n ≡ net.transitions → Wired net)
      → feed_all (both (going fresh []) x) (head net initial ++ joined (row_line net) n)
      ≡ both (going (state (cond (eqb n net.transitions) 5 4) net.places net.transitions n 0 (3 + pockets_count net.marks + n)) []) (rows_kept n)
  unfolding joined rows_kept
  after_rows zero h wired =
      let e : eqb 0 net.transitions ≡ false = ne_eqb 0 net.transitions (λ q. omega (arith, r.some_transitions)) in
      let o : 3 + pockets_count net.marks + 0 ≡ 3 + pockets_count net.marks = omega arith in
      ap (feed_all (both (going fresh []) x)) (append-nil (head net initial)) ∙ after_tokens ∙ rw (e, zero-mul, o)
  after_rows (suc n) h wired =
      let s : Reading = state 4 net.places net.transitions n 0 (3 + pockets_count net.marks + n) in
      let a : List ℕ = row net.places n net.pre in
      let b : List ℕ = row net.places n net.post in
      let e : eqb n net.transitions ≡ false = ne_eqb n net.transitions (λ q. omega arith) in
      let f : n * net.places + net.places ≤ net.transitions * net.places = row_end n net.transitions net.places h in
      let before : feed_all (both (going fresh []) x) (head net initial ++ joined (row_line net) n) ≡ both (going s []) (rows_kept n) = after_rows n (omega arith) (λ q. absurd (omega arith)) ∙ rw e in
      let m : suc n * net.places ≡ n * net.places + net.places = suc-mul n net.places in
      let t : 3 + pockets_count net.marks + n + 1 ≡ 3 + pockets_count net.marks + suc n = omega arith in
      let u = grows net.pre x.pre (n * net.places) net.places (omega (arith, r.pres)) in
      let v = grows net.post x.post (n * net.places) net.places (omega (arith, r.posts)) in
      ap (feed_all (both (going fresh []) x)) (sym (append_assoc (head net initial) (joined (row_line net) n) (row_line net n)))
      ∙ then_line _ _ _ _ _ before
      (fed s (rows_kept n) (row_frame n a b) _ _
      (takes_row s (rows_kept n) a b refl r.few_places (omega (arith, r.few_transitions))
      (row_length_lem net.places n net.pre (omega (arith, r.pres))) (row_length_lem net.places n net.post (omega (arith, r.posts)))
      (below_take net.places (drop (n * net.places) net.pre) (below_drop (n * net.places) net.pre r.takes))
      (below_take net.places (drop (n * net.places) net.post) (below_drop (n * net.places) net.post r.puts))
      (λ q. subst Wired (sym (rows_net n q)) (wired (omega arith)))))
      ∙ rw (u, v, m, t, add-one)

  last_row : (n : ℕ) → suc n ≡ net.transitions → (Wired net → ⊥) → (rest : List ℕ) → (feed_all (both (going fresh []) x) (head net initial ++ joined (row_line net) (suc n) ++ rest)).run ≡ stopped 17 (3 + pockets_count net.marks + suc n)
  unfolding joined
  last_row n q loose rest =
      let s : Reading = state 4 net.places net.transitions n 0 (3 + pockets_count net.marks + n) in
      let a : List ℕ = row net.places n net.pre in
      let b : List ℕ = row net.places n net.post in
      let d : List ℕ = digits_of (row_frame n a b) in
      let H : List ℕ = head net initial ++ joined (row_line net) n in
      let e : eqb n net.transitions ≡ false = ne_eqb n net.transitions (λ z. omega arith) in
      let f : n * net.places + net.places ≤ net.transitions * net.places = row_end n net.transitions net.places (omega arith) in
      let before : feed_all (both (going fresh []) x) H ≡ both (going s []) (rows_kept n) = after_rows n (omega arith) (λ z. absurd (omega arith)) ∙ rw e in
      let few : n ≤ count_limit = omega (arith, r.few_transitions) in
      let la = row_length_lem net.places n net.pre (omega (arith, r.pres)) in
      let lb = row_length_lem net.places n net.post (omega (arith, r.posts)) in
      let wa = below_take net.places (drop (n * net.places) net.pre) (below_drop (n * net.places) net.pre r.takes) in
      let wb = below_take net.places (drop (n * net.places) net.post) (below_drop (n * net.places) net.post r.puts) in
      let rule = (row_formed s (rows_kept n) a b refl r.few_places few la lb wa wb).0 in
      let q' : n + 1 ≡ net.transitions = omega arith in
      let j = loose_row s (rows_kept n) a b refl r.few_places few la lb wa wb q' (λ w. loose (subst Wired (rows_net n q') w)) in
      let i = line-meaning.refused_line s d (rows_kept n) 17 (line_here s) j in
      let t : 3 + pockets_count net.marks + n + 1 ≡ 3 + pockets_count net.marks + suc n = omega arith in
      let text : head net initial ++ (joined (row_line net) n ++ row_line net n) ++ rest ≡ H ++ (d ++ line_feed ∷ rest)
      = ap (λ (l : List ℕ). l ++ rest) (sym (append_assoc (head net initial) (joined (row_line net) n) (row_line net n))) ∙ append_assoc H (row_line net n) rest ∙ ap (λ (l : List ℕ). H ++ l) (append_assoc d (line_feed ∷ []) rest) in
      ap (λ (z : Both). z.run)
      (ap (feed_all (both (going fresh []) x)) text ∙ all_append (both (going fresh []) x) H (d ++ line_feed ∷ rest) ∙ ap (λ (z : Both). feed_all z (d ++ line_feed ∷ rest)) before
      ∙ refused_line s (rows_kept n) d rest (no_feed d (rule_all d rule)) 17 (line_here s) (sym i.0))
      ∙ ap (stopped 17) t

  -- a net that hangs loose is refused on the line of its last transition, whatever comes after
  pub loose_read : (Wired net → ⊥) → (rest : List ℕ) → (feed_all (both (going fresh []) x) (head net initial ++ joined (row_line net) net.transitions ++ rest)).run ≡ stopped 17 (3 + pockets_count net.marks + net.transitions)
  loose_read loose rest = go net.transitions refl
    where
      go : (T : ℕ) → T ≡ net.transitions → (feed_all (both (going fresh []) x) (head net initial ++ joined (row_line net) T ++ rest)).run ≡ stopped 17 (3 + pockets_count net.marks + T)
      go zero q = absurd (let z = r.some_transitions in omega arith)
      go (suc n) q = last_row n q loose rest

module _ (x : Rooms) (big : Large x) (net : Net) (initial w : List ℕ) (l : Listed net initial w) where
  after_net : feed_all (both (going fresh []) x) (head net initial ++ joined (row_line net) net.transitions)
      ≡ both (going (state 5 net.places net.transitions net.transitions 0 (3 + pockets_count net.marks + net.transitions)) []) (filled x net initial [])
  unfolding rows_kept
  after_net =
      let e : eqb net.transitions net.transitions ≡ true = eq-eqb net.transitions net.transitions refl in
      let u = take_all (net.transitions * net.places) net.pre (omega (arith, l.rowed.pres)) in
      let v = take_all (net.transitions * net.places) net.post (omega (arith, l.rowed.posts)) in
      after_rows x big net initial l.rowed net.transitions (omega arith) (λ _. l.wired) ∙ rw (e, u, v)

  after_letters : (k : ℕ) → k ≤ letters_lines (length w)
      → feed_all (both (going fresh []) x) (head net initial ++ joined (row_line net) net.transitions ++ joined (letters_line w) k)
      ≡ both (going (state 5 net.places net.transitions net.transitions (length (take (k * block) w)) (3 + pockets_count net.marks + net.transitions + k)) []) (filled x net initial (take (k * block) w))
  unfolding joined
  after_letters zero h =
      let z : 3 + pockets_count net.marks + net.transitions + 0 ≡ 3 + pockets_count net.marks + net.transitions = omega arith in
      ap (feed_all (both (going fresh []) x)) (append-nil (head net initial ++ joined (row_line net) net.transitions)) ∙ after_net ∙ rw z
  after_letters (suc k) h =
      let A : List ℕ = head net initial ++ joined (row_line net) net.transitions in
      let i : k * block ≤ length w = omega arith in
      let n : length (take (k * block) w) ≡ k * block = length-take-le (k * block) w i in
      let s : Reading = state 5 net.places net.transitions net.transitions (k * block) (3 + pockets_count net.marks + net.transitions + k) in
      let y : Rooms = filled x net initial (take (k * block) w) in
      let v : List ℕ = row block k w in
      let c = length-drop (k * block) w in
      let e = length-take block (drop (k * block) w) in
      let before : feed_all (both (going fresh []) x) (A ++ joined (letters_line w) k) ≡ both (going s []) y = after_letters k (omega arith) ∙ rw n in
      let m : suc k * block ≡ k * block + block = suc-mul k block in
      let o : length (take (suc k * block) w) ≡ k * block + length v = rw (m, take-add (k * block) block w) (length-append (take (k * block) w) v ∙ omega arith) in
      let t : 3 + pockets_count net.marks + net.transitions + k + 1 ≡ 3 + pockets_count net.marks + net.transitions + suc k = omega arith in
      let u = grows w x.word (k * block) block i in
      ap (feed_all (both (going fresh []) x)) (sym (append_assoc A (joined (letters_line w) k) (letters_line w k)))
      ∙ then_line _ _ _ _ _ before
      (fed s y (5 ∷ v) _ _
      (takes_letters s y v refl (omega arith) l.rowed.few_transitions (omega arith) (omega arith) (omega (arith, l.short)) (below_take block (drop (k * block) w) (below_drop (k * block) w l.letters))))
      ∙ rw (u, ← o, t, m)

  pub whole : feed_all (both (going fresh []) x) (file_of net initial w) ≡ both (going (end_of net w) []) (filled x net initial w)
  unfolding file_of
  whole =
      let e : take (letters_lines (length w) * block) w ≡ w = take_all (letters_lines (length w) * block) w (omega arith) in
      after_letters (letters_lines (length w)) (omega arith) ∙ rw e
