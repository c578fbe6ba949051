-- What the answer to a line means: the first of document 01's demands that it breaks (in the order 11, 12, 1, 18, 3, 17, 4, 5: DECISIONS 48). Assumes nothing.
use Rattle.std.specs.Prelude.{Ok, Err}
use Rattle.refusals.specs.Given.{refusal, refused}
use mathlib.Core.Path.{◌≡◌, refl, sym, ◌∙◌}
use mathlib.Core.Bool.{Bool, true, false, cond}
use mathlib.Core.Logic.{◌↔◌, ◌⊎◌, ⊎_elim}
use mathlib.Core.List.{List, []}
use Prim.Native.Nat.{ℕ, ◌+◌, ◌≤◌, ◌<◌, ◌%◌}
use native.Mathlib.Omega.{arith}
use lib.Dec.{eqb}
use lib.ListN.{length, get_or}
use borrow.Author.Tests.{eqb-true, eqb-false}
use Rattle.ground.specs.Limits.{word_limit}
use Rattle.ground.proofs.Tests.{never}
use Rattle.wiring.specs.Wired.{Wired}
use Rattle.refusals.specs.First.{First, fails, holds, Given}
use Rattle.file_digits.specs.Frame.{line_limit, block}
use Rattle.file_mask.specs.Mask.{mask_in}
use Rattle.file_row.specs.Row.{byte_limit, narrow_row, wide_row, is_row, takes_in, puts_in}
use Rattle.file_line.specs.declared.Reading.{Reading}
use Rattle.file_line.specs.declared.Rooms.{Rooms}
use Rattle.file_line.specs.Read.{kind_of, letters_in, line_here, judge_of, advanced, advanced_kind, stored, net_in, line_of, rooms_of}
use Rattle.file_line.specs.Line.{Digit, Ruled, NoBitPast, SomeWide, Formed, frame01, frame02, frame06, frame03, frame04, frame07, frame05, WeightsAllowed, TokensAllowed, NetWired, WordNotOver, LettersNamed, Taken, Judged}
use Rattle.file_line.proofs.Weights.{row_kinds, kinds_row}
use Rattle.file_line.proofs.Order.{no_counts, no_weights, no_tokens, no_net, no_long, no_letters, formed_01, formed_03, formed_05, formed_06, formed_07, judged_chain, taken_of, of_taken}

-- another number was given, so the demand holds
past : {Demand Next : Type 0} {k p n at : ℕ} → First Demand (Given k p n at) Next → (n ≡ k → ⊥) → Demand × Next
past (fails h e) n = absurd (n e.number)
past (holds p a) n = (p, a)

module _ (s : Reading) (d : List ℕ) (x : Rooms) where
  -- a line is refused, with this number and line, exactly where the first demand of document 01 that it breaks gives them
  pub judged_exactly : (n at : ℕ) → (judge_of s d x ≡ Err (refusal n at)) ↔ Judged s d x n at
  judged_exactly n at = (judged_chain s d x).exactly n at

  -- a line is taken exactly where it breaks nothing
  pub taken_exactly : (judge_of s d x ≡ Ok tt) ↔ Taken s d x
  taken_exactly = (taken_of s d x, of_taken s d x)

  given : (k : ℕ) → Given k (line_here s) k (line_here s)
  given k = record { number = refl; position = refl }

  -- a refusal has one of these numbers, and the line's own number, counted from 1
  pub judged_number : (n at : ℕ) → judge_of s d x ≡ Err (refusal n at) → (1 ≤ n) × (n ≤ 18) × (at ≡ line_here s)
  judged_number n at e = one ((judged_exactly n at).0 e)
    where
      one : Judged s d x n at → (1 ≤ n) × (n ≤ 18) × (at ≡ line_here s)
      one (fails h g) = (omega (arith, g.number), omega (arith, g.number), g.position)
      one (holds a (fails h g)) = (omega (arith, g.number), omega (arith, g.number), g.position)
      one (holds a (holds b (fails h g))) = (omega (arith, g.number), omega (arith, g.number), g.position)
      one (holds a (holds b (holds c (fails h g)))) = (omega (arith, g.number), omega (arith, g.number), g.position)
      one (holds a (holds b (holds c (holds f (fails h g))))) = (omega (arith, g.number), omega (arith, g.number), g.position)
      one (holds a (holds b (holds c (holds f (holds i (fails h g)))))) = (omega (arith, g.number), omega (arith, g.number), g.position)
      one (holds a (holds b (holds c (holds f (holds i (holds j (fails h g))))))) = (omega (arith, g.number), omega (arith, g.number), g.position)
      one (holds a (holds b (holds c (holds f (holds i (holds j (holds k (fails h g)))))))) = (omega (arith, g.number), omega (arith, g.number), g.position)
      one (holds a (holds b (holds c (holds f (holds i (holds j (holds k (holds l z)))))))) = absurd z

  -- a line that breaks the digit rules is 11, whatever else it breaks
  pub digits_first : (Ruled d → ⊥) → judge_of s d x ≡ Err (refusal 11 (line_here s))
  digits_first h = (judged_exactly 11 (line_here s)).1 (fails h (given 11))

  -- a blank, a carriage return, a lower-case digit: any byte that is no digit
  pub digits_only : (k : ℕ) → k < length d → (Digit (get_or d k 0) → ⊥) → judge_of s d x ≡ Err (refusal 11 (line_here s))
  digits_only k h n = digits_first (λ r. n (r.digits k h))

  pub digits_most : line_limit < length d → judge_of s d x ≡ Err (refusal 11 (line_here s))
  digits_most h = digits_first (λ r. let z = r.most in omega arith)

  -- then a frame of another kind, length, index, mask or weights is 12, whatever its numbers are
  pub form_second : Ruled d → (Formed s d → ⊥) → judge_of s d x ≡ Err (refusal 12 (line_here s))
  form_second r h = (judged_exactly 12 (line_here s)).1 (holds r (fails h (given 12)))

  -- so is a 06 anywhere but behind 02, a mask with no bit, and one with a bit at or past P
  module _ (r : Ruled d) (k : kind_of d ≡ 6) where
    pub pockets_elsewhere : (s.phase ≡ 6 → ⊥) → judge_of s d x ≡ Err (refusal 12 (line_here s))
    pockets_elsewhere n = form_second r (λ f. n (formed_06 s d f k).0)

    pub pockets_none : mask_in d ≡ 0 → judge_of s d x ≡ Err (refusal 12 (line_here s))
    pockets_none z = form_second r (λ f. (formed_06 s d f k).2 z)

    pub pockets_past : (NoBitPast s d → ⊥) → judge_of s d x ≡ Err (refusal 12 (line_here s))
    pockets_past n = form_second r (λ f. n (formed_06 s d f k).3)

  -- so is an 07 anywhere but where an 04 may come, and one with no weight over what a byte holds
  module _ (r : Ruled d) (k : kind_of d ≡ wide_row) where
    pub wide_elsewhere : (s.phase ≡ narrow_row → ⊥) → judge_of s d x ≡ Err (refusal 12 (line_here s))
    wide_elsewhere n = form_second r (λ f. n (formed_07 s d f k).0)

    pub wide_none : ((p : ℕ) → p < s.places → (get_or (takes_in wide_row d s.places) p 0 ≤ byte_limit) × (get_or (puts_in wide_row d s.places) p 0 ≤ byte_limit))
        → judge_of s d x ≡ Err (refusal 12 (line_here s))
    wide_none small = form_second r (λ f. none (formed_07 s d f k).3)
      where
        none : SomeWide s d → ⊥
        none w = let l = small w.place w.here in ⊎_elim (λ h. omega (arith, l.0)) (λ h. omega (arith, l.1)) w.wide

  -- letter 65,536 is 4, before a wrong letter of the same line
  pub over_before_letter : Ruled d → Formed s d → kind_of d ≡ 5 → word_limit < s.letters + letters_in d → judge_of s d x ≡ Err (refusal 4 (line_here s))
  over_before_letter r f e h =
      (judged_exactly 4 (line_here s)).1
      (holds r (holds f (holds (no_counts s d x (λ k. omega arith)) (holds (no_weights s d x (λ k. omega arith)) (holds (no_tokens s d x (λ k. omega arith))
      (holds (no_net s d x (⊎_elim (λ k. omega arith) (λ k. omega arith))) (fails (λ m. let z = m.few e in omega arith) (given 4))))))))

  -- a refusal of a frame's numbers falls on a frame of its kind, at its place: 1 on 01, 18 on 07, 3 on 03, 17 on the last 04 or 07, 4 and 5 on 05
  on_test : {Demand Next : Type 0} {n p k at : ℕ} (b : Bool) → (b ≡ false → Demand) → (Next → ⊥) → First Demand (Given n p k at) Next → b ≡ true
  on_test b free no_more (holds p a) = absurd (no_more a)
  on_test true free no_more (fails h e) = refl
  on_test false free no_more (fails h e) = absurd (h (free refl))

  on_kind : {Demand Next : Type 0} {n p k at : ℕ} (j : ℕ) → ((kind_of d ≡ j → ⊥) → Demand) → (Next → ⊥) → First Demand (Given n p k at) Next → kind_of d ≡ j
  on_kind j free no_more f = eqb-true _ _ (on_test (eqb (kind_of d) j) (λ q. free (eqb-false _ _ q)) no_more f)

  not_held : {Demand Next : Type 0} {n p k at : ℕ} → (Next → ⊥) → First Demand (Given n p k at) Next → Demand → ⊥
  not_held no_more (holds p a) = λ _. no_more a
  not_held no_more (fails h e) = h

  module _ (at : ℕ) where
    pub one_on_01 : judge_of s d x ≡ Err (refusal 1 at) → (s.phase ≡ 1) × (kind_of d ≡ 1)
    one_on_01 e =
        let a = past ((judged_exactly 1 at).0 e) (λ q. omega arith) in
        let b = past a.1 (λ q. omega arith) in
        let k = on_kind 1 (no_counts s d x) (λ f. (past (past (past (past (past f (λ q. omega arith)).1 (λ q. omega arith)).1 (λ q. omega arith)).1 (λ q. omega arith)).1 (λ q. omega arith)).1) b.1 in
        ((formed_01 s d b.0 k).0, k)

    -- 18 is given exactly on an 07 with a weight over what is allowed, where nothing before it is broken
    pub heavy_exactly : (judge_of s d x ≡ Err (refusal 18 at)) ↔ (Ruled d × Formed s d × (kind_of d ≡ wide_row) × (WeightsAllowed s d → ⊥) × (at ≡ line_here s))
    heavy_exactly = (there, back)
      where
        no_more : First (TokensAllowed s d x) (Given 3 (line_here s) 18 at)
            (First (NetWired s d x) (Given 17 (line_here s) 18 at) (First (WordNotOver s d) (Given 4 (line_here s) 18 at) (First (LettersNamed s d) (Given 5 (line_here s) 18 at) ⊥)))
            → ⊥
        no_more f = (past (past (past (past f (λ q. omega arith)).1 (λ q. omega arith)).1 (λ q. omega arith)).1 (λ q. omega arith)).1

        there : judge_of s d x ≡ Err (refusal 18 at) → Ruled d × Formed s d × (kind_of d ≡ wide_row) × (WeightsAllowed s d → ⊥) × (at ≡ line_here s)
        there e =
            let a = past ((judged_exactly 18 at).0 e) (λ q. omega arith) in
            let b = past a.1 (λ q. omega arith) in
            let c = past b.1 (λ q. omega arith) in
            (a.0, b.0, on_kind wide_row (no_weights s d x) no_more c.1, not_held no_more c.1, (judged_number 18 at e).2)

        back : Ruled d × Formed s d × (kind_of d ≡ wide_row) × (WeightsAllowed s d → ⊥) × (at ≡ line_here s) → judge_of s d x ≡ Err (refusal 18 at)
        back h =
            let k = h.2 in
            (judged_exactly 18 at).1 (holds h.0 (holds h.1 (holds (no_counts s d x (λ q. omega arith)) (fails h.3 (record { number = refl; position = h.4 })))))

    pub three_on_03 : judge_of s d x ≡ Err (refusal 3 at) → ((s.phase ≡ 6) ⊎ (s.phase ≡ 3)) × (kind_of d ≡ 3)
    three_on_03 e =
        let a = past ((judged_exactly 3 at).0 e) (λ q. omega arith) in
        let b = past a.1 (λ q. omega arith) in
        let c = past (past b.1 (λ q. omega arith)).1 (λ q. omega arith) in
        let k = on_kind 3 (no_tokens s d x) (λ f. (past (past (past f (λ q. omega arith)).1 (λ q. omega arith)).1 (λ q. omega arith)).1) c.1 in
        ((formed_03 s d b.0 k).0, k)

    -- 17 is given exactly on the line of the last transition, where the net read with it is not wired and nothing before it is broken
    pub wired_exactly : (judge_of s d x ≡ Err (refusal 17 at))
        ↔ (Ruled d × Formed s d × WeightsAllowed s d × ((kind_of d ≡ narrow_row) ⊎ (kind_of d ≡ wide_row)) × (s.next + 1 ≡ s.transitions) × (Wired (net_in s (stored s d x)) → ⊥) × (at ≡ line_here s))
    wired_exactly = (there, back)
      where
        last : (b : Bool) → eqb (s.next + 1) s.transitions ≡ b → (NetWired s d x → ⊥) → s.next + 1 ≡ s.transitions
        last true q n = eqb-true _ _ q
        last false q n = absurd (n (record { wired = λ k l. absurd (eqb-false _ _ q l) }))

        no_more : First (WordNotOver s d) (Given 4 (line_here s) 17 at) (First (LettersNamed s d) (Given 5 (line_here s) 17 at) ⊥) → ⊥
        no_more g = (past (past g (λ q. omega arith)).1 (λ q. omega arith)).1

        there : judge_of s d x ≡ Err (refusal 17 at) → Ruled d × Formed s d × WeightsAllowed s d × ((kind_of d ≡ narrow_row) ⊎ (kind_of d ≡ wide_row)) × (s.next + 1 ≡ s.transitions) × (Wired (net_in s (stored s d x)) → ⊥) × (at ≡ line_here s)
        there e =
            let a = past ((judged_exactly 17 at).0 e) (λ q. omega arith) in
            let b = past a.1 (λ q. omega arith) in
            let c = past (past b.1 (λ q. omega arith)).1 (λ q. omega arith) in
            let f = past c.1 (λ q. omega arith) in
            let k = row_kinds (kind_of d) (on_test (is_row (kind_of d)) (λ q. no_net s d x (λ r. never (sym (kinds_row (kind_of d) r) ∙ q))) no_more f.1) in
            let n = not_held no_more f.1 in
            (a.0, b.0, c.0, k, last (eqb (s.next + 1) s.transitions) refl n, λ w. n (record { wired = λ j l. w }), (judged_number 17 at e).2)

        back : Ruled d × Formed s d × WeightsAllowed s d × ((kind_of d ≡ narrow_row) ⊎ (kind_of d ≡ wide_row)) × (s.next + 1 ≡ s.transitions) × (Wired (net_in s (stored s d x)) → ⊥) × (at ≡ line_here s) → judge_of s d x ≡ Err (refusal 17 at)
        back h =
            let other : (j : ℕ) → (j ≡ narrow_row → ⊥) → (j ≡ wide_row → ⊥) → kind_of d ≡ j → ⊥ = λ j a b q. ⊎_elim (λ k. a (sym q ∙ k)) (λ k. b (sym q ∙ k)) h.3 in
            (judged_exactly 17 at).1
            (holds h.0 (holds h.1 (holds (no_counts s d x (other 1 (λ q. omega arith) (λ q. omega arith))) (holds h.2 (holds (no_tokens s d x (other 3 (λ q. omega arith) (λ q. omega arith)))
            (fails (λ w. h.5 (w.wired h.3 h.4)) (record { number = refl; position = h.6 })))))))

    pub four_on_05 : judge_of s d x ≡ Err (refusal 4 at) → (s.phase ≡ 5) × (kind_of d ≡ 5)
    four_on_05 e =
        let a = past ((judged_exactly 4 at).0 e) (λ q. omega arith) in
        let b = past a.1 (λ q. omega arith) in
        let c = past (past b.1 (λ q. omega arith)).1 (λ q. omega arith) in
        let f = past (past c.1 (λ q. omega arith)).1 (λ q. omega arith) in
        let k = on_kind 5 (no_long s d x) (λ f. (past f (λ q. omega arith)).1) f.1 in
        ((formed_05 s d b.0 k).0, k)

    pub five_on_05 : judge_of s d x ≡ Err (refusal 5 at) → (s.phase ≡ 5) × (kind_of d ≡ 5)
    five_on_05 e =
        let a = past ((judged_exactly 5 at).0 e) (λ q. omega arith) in
        let b = past a.1 (λ q. omega arith) in
        let c = past (past b.1 (λ q. omega arith)).1 (λ q. omega arith) in
        let f = past (past c.1 (λ q. omega arith)).1 (λ q. omega arith) in
        let g = past f.1 (λ q. omega arith) in
        let k = on_kind 5 (no_letters s d x) (λ z. z) g.1 in
        ((formed_05 s d b.0 k).0, k)

  -- what the line comes to, by its fault
  pub taken_line : judge_of s d x ≡ Ok tt → (line_of s d x ≡ Ok (advanced s d)) × (rooms_of s d x ≡ stored s d x)
  unfolding line_of rooms_of
  taken_line e = (rw e, rw e)

  pub refused_line : (n at : ℕ) → judge_of s d x ≡ Err (refusal n at) → (line_of s d x ≡ refused n at) × (rooms_of s d x ≡ cond (eqb n 17) (stored s d x) x)
  unfolding line_of rooms_of
  refused_line n at e = (rw e, rw e)

-- an empty line is 11
pub empty_line : (s : Reading) (x : Rooms) → judge_of s [] x ≡ Err (refusal 11 (line_here s))
empty_line s x = digits_first s [] x (λ r. let z = r.least in omega arith)

-- a 05 after one of fewer than 64 letters is 12
pub short_then_more : (s : Reading) (d e : List ℕ) (x : Rooms) → judge_of s d x ≡ Ok tt → kind_of d ≡ 5 → letters_in d < block → Ruled e → kind_of e ≡ 5
    → judge_of (advanced s d) e x ≡ Err (refusal 12 (line_here (advanced s d)))
unfolding advanced_kind
short_then_more s d e x j k h r l =
    let t = (taken_exactly s d x).0 j in
    let f = formed_05 s d t.formed k in
    let even : length d % 2 ≡ 0 = t.ruled.even in
    let m : (advanced s d).letters ≡ s.letters + letters_in d = rw k in
    form_second (advanced s d) e x r (λ g. let z = (formed_05 (advanced s d) e g l).1 in omega (arith, f.1, f.2))

-- behind a line that is no 02 a 06 is 12: so after 03, and so a second 06
row_behind : (b : Bool) → ◌≡◌ {A = ℕ} (cond b 5 4) 6 → ⊥
row_behind true z = omega arith
row_behind false z = omega arith

behind : (s : Reading) (d : List ℕ) → (kind_of d ≡ 2 → ⊥) → Formed s d → (advanced s d).phase ≡ 6 → ⊥
unfolding advanced_kind
behind s d n (frame01 p k l) q = let z : ◌≡◌ {A = ℕ} 2 6 = rw k at q in omega arith
behind s d n (frame02 p k l) q = n k
behind s d n (frame06 p k l m z) q = let w : ◌≡◌ {A = ℕ} 3 6 = rw k at q in omega arith
behind s d n (frame03 p k l) q = let z : ◌≡◌ {A = ℕ} 4 6 = rw k at q in omega arith
behind s d n (frame04 p k l i) q = row_behind (eqb (s.next + 1) s.transitions) (rw k at q)
behind s d n (frame07 p k l i w) q = row_behind (eqb (s.next + 1) s.transitions) (rw k at q)
behind s d n (frame05 p k a l m) q = let z : ◌≡◌ {A = ℕ} 5 6 = rw k at q in omega arith

pub pockets_only_behind_02 : (s : Reading) (d e : List ℕ) (x y : Rooms) → judge_of s d x ≡ Ok tt → (kind_of d ≡ 2 → ⊥) → Ruled e → kind_of e ≡ 6
    → judge_of (advanced s d) e y ≡ Err (refusal 12 (line_here (advanced s d)))
pockets_only_behind_02 s d e x y j n r l = pockets_elsewhere (advanced s d) e y r l (behind s d n ((taken_exactly s d x).0 j).formed)
