-- The tests of a line are document 01's demands, in the order of the numbers. Assumes nothing.
use Rattle.std.specs.Prelude.{Ok, Err}
use Rattle.refusals.specs.Given.{Fault}
use mathlib.Core.Path.{◌≡◌, refl, sym, ap, ◌∙◌}
use mathlib.Core.Bool.{Bool, true, false, not, ◌&&◌, ◌||◌}
use mathlib.Core.Logic.{◌⊎◌, inl, inr}
use mathlib.Core.List.{List}
use Prim.Native.Nat.{ℕ, zero, suc, ◌+◌, ◌*◌, ◌≤◌, ◌<◌, ◌%◌}
use native.Mathlib.Omega.{arith}
use lib.Dec.{leb, eqb}
use lib.ListN.{length, get_or}
use borrow.Author.Tests.{eq-eqb, ne_eqb, eqb-true, le-ltb, ltb-false, le-leb, lt-leb, leb-true, leb-false, not-false}
use Rattle.ground.specs.Limits.{weight_limit}
use Rattle.ground.proofs.Tests.{never, or-false, both_false, and-true}
use Rattle.ground.proofs.Scan.{first_none, first_below}
use Rattle.net.specs.Net.{Net}
use Rattle.wiring.specs.Wired.{Wired}
use Rattle.weights.specs.Heavy.{row_over}
use Rattle.refusals.specs.Given.{refuse, outside, loose_fault, marking_fault, bad_letter, Letters}
use Rattle.refusals.proofs.Chains.{refuse_sound, sound_refuse, or_sound, sound_or}
use Rattle.refusals.proofs.Refusals.{inside_of, inside_is, loose_met, met_loose, fine_of, fine_is}
use Rattle.refusals.proofs.Exactly.{Chain, tells_test, reads_test, reads_both, reads_all}
use Rattle.file_digits.specs.Frame.{block, byte_at}
use Rattle.file_mask.specs.Mask.{mask_bytes, above_bits, mask_fits, mask_in}
use Rattle.file_row.specs.Row.{narrow_row, wide_row, is_row, weight_bytes, takes_in, puts_in}
use Rattle.file_line.specs.declared.Reading.{Reading}
use Rattle.file_line.specs.declared.Rooms.{Rooms}
use Rattle.file_line.specs.Read.{kind_of, stands_as, expected, tokens_in, word_part, line_here, rule_of, formed_kind, formed_of, counts_bad, weights_bad, tokens_bad, is_faulty, hangs_loose, loose_bad, word_over, letters_bad, stored, judge_of}
use Rattle.file_line.specs.Line.{Ruled, SomeBit, NoBitPast, SomeWide, Formed, frame01, frame02, frame06, frame03, frame04, frame07, frame05, CountsInRange, WeightsAllowed, TokensAllowed, NetWired, WordNotOver, LettersNamed, Taken, Judged}
use Rattle.file_line.specs.Walk.{asked_of}
use Rattle.file_line.proofs.Digits.{rule_exactly}
use Rattle.file_line.proofs.Weights.{row_kinds, kinds_row, wide_some, some_wide, weights_light, light_weights}

-- a test that is asked of one kind only
module _ (k j : ℕ) (b : Bool) where
  asked_of_lem : (eqb k j && b) ≡ false → k ≡ j → b ≡ false
  asked_of_lem e h = rw (eq-eqb k j h) at e

  of_asked : (k ≡ j → b ≡ false) → (eqb k j && b) ≡ false
  of_asked f = go (eqb k j) refl
    where
      go : (a : Bool) → eqb k j ≡ a → (a && b) ≡ false
      go true q = f (eqb-true _ _ q)
      go false q = refl

-- ... and one that is asked of a transition's weights, in both kinds
module _ (k : ℕ) (b : Bool) where
  row_asked : (is_row k && b) ≡ false → (k ≡ narrow_row) ⊎ (k ≡ wide_row) → b ≡ false
  row_asked e h = rw (kinds_row k h) at e

  asked_row : ((k ≡ narrow_row) ⊎ (k ≡ wide_row) → b ≡ false) → (is_row k && b) ≡ false
  asked_row f = go (is_row k) refl
    where
      go : (a : Bool) → is_row k ≡ a → (a && b) ≡ false
      go true q = f (row_kinds k q)
      go false q = refl

-- no other kind is known
pub formed_rest : (s : Reading) (d : List ℕ) (k : ℕ) → (k ≡ 1 → ⊥) → (k ≡ 2 → ⊥) → (k ≡ 3 → ⊥) → (k ≡ 4 → ⊥) → (k ≡ 5 → ⊥) → (k ≡ 6 → ⊥) → (k ≡ 7 → ⊥) → formed_kind k s d ≡ false
unfolding formed_kind
formed_rest s d k a b e f g h i = simp (ne_eqb k 1 a, ne_eqb k 2 b, ne_eqb k 3 e, ne_eqb k 4 f, ne_eqb k 5 g, ne_eqb k 6 h, ne_eqb k 7 i)

-- a mask has some bit, and none past the places: its test says so
module _ (m P : ℕ) where
  mask_some : mask_fits m P ≡ true → (m ≡ 0 → ⊥) × (above_bits m P ≡ 0)
  unfolding mask_fits
  mask_some e =
      let a = and-true (not (eqb m 0)) (eqb (above_bits m P) 0) e in
      (λ z. never (sym (rw z at a.0)), eqb-true _ _ a.1)

  mask_is : (m ≡ 0 → ⊥) → above_bits m P ≡ 0 → mask_fits m P ≡ true
  unfolding mask_fits
  mask_is n z = rw (ne_eqb m 0 n, z)

-- the kind that the state says, or a 03 where a 06 may come
module _ (s : Reading) (k : ℕ) where
  expected_says : expected s k ≡ true → (stands_as k ≡ s.phase) ⊎ ((s.phase ≡ 6) × (k ≡ 3))
  expected_says e = go (eqb (stands_as k) s.phase) refl e
    where
      go : (b : Bool) → eqb (stands_as k) s.phase ≡ b → (b || (eqb s.phase 6 && eqb k 3)) ≡ true → (stands_as k ≡ s.phase) ⊎ ((s.phase ≡ 6) × (k ≡ 3))
      go true q h = inl (eqb-true _ _ q)
      go false q h =
          let a = and-true (eqb s.phase 6) (eqb k 3) h in
          inr (eqb-true _ _ a.0, eqb-true _ _ a.1)

-- a frame that is formedOf, by its kind
module _ (s : Reading) (d : List ℕ) where
  -- where it stands: the kind that the state says, or a 03 where a 06 may come
  pub formed_kind_lem : Formed s d → (1 ≤ kind_of d) × (kind_of d ≤ 7) × ((stands_as (kind_of d) ≡ s.phase) ⊎ ((s.phase ≡ 6) × (kind_of d ≡ 3)))
  formed_kind_lem (frame01 p k l) = (omega arith, omega arith, inl (rw (k, p)))
  formed_kind_lem (frame02 p k l) = (omega arith, omega arith, inl (rw (k, p)))
  formed_kind_lem (frame06 p k l n z) = (omega arith, omega arith, inl (rw (k, p)))
  formed_kind_lem (frame03 (inl p) k l) = (omega arith, omega arith, inr (p, k))
  formed_kind_lem (frame03 (inr p) k l) = (omega arith, omega arith, inl (rw (k, p)))
  formed_kind_lem (frame04 p k l i) = (omega arith, omega arith, inl (rw (k, p)))
  formed_kind_lem (frame07 p k l i w) = (omega arith, omega arith, inl (rw (k, p)))
  formed_kind_lem (frame05 p k q l m) = (omega arith, omega arith, inl (rw (k, p)))

  pub formed_01 : Formed s d → kind_of d ≡ 1 → (s.phase ≡ 1) × (length d ≡ 6)
  formed_01 (frame01 p k l) e = (p, l)
  formed_01 (frame02 p k l) e = absurd (omega arith)
  formed_01 (frame06 p k l n z) e = absurd (omega arith)
  formed_01 (frame03 p k l) e = absurd (omega arith)
  formed_01 (frame04 p k l i) e = absurd (omega arith)
  formed_01 (frame07 p k l i w) e = absurd (omega arith)
  formed_01 (frame05 p k q l m) e = absurd (omega arith)

  pub formed_02 : Formed s d → kind_of d ≡ 2 → (s.phase ≡ 2) × (length d ≡ 2 + 4 * s.places)
  formed_02 (frame01 p k l) e = absurd (omega arith)
  formed_02 (frame02 p k l) e = (p, l)
  formed_02 (frame06 p k l n z) e = absurd (omega arith)
  formed_02 (frame03 p k l) e = absurd (omega arith)
  formed_02 (frame04 p k l i) e = absurd (omega arith)
  formed_02 (frame07 p k l i w) e = absurd (omega arith)
  formed_02 (frame05 p k q l m) e = absurd (omega arith)

  pub formed_06 : Formed s d → kind_of d ≡ 6 → (s.phase ≡ 6) × (length d ≡ 2 + 2 * mask_bytes) × SomeBit d × NoBitPast s d
  formed_06 (frame01 p k l) e = absurd (omega arith)
  formed_06 (frame02 p k l) e = absurd (omega arith)
  formed_06 (frame06 p k l n z) e = (p, l, n, z)
  formed_06 (frame03 p k l) e = absurd (omega arith)
  formed_06 (frame04 p k l i) e = absurd (omega arith)
  formed_06 (frame07 p k l i w) e = absurd (omega arith)
  formed_06 (frame05 p k q l m) e = absurd (omega arith)

  pub formed_03 : Formed s d → kind_of d ≡ 3 → ((s.phase ≡ 6) ⊎ (s.phase ≡ 3)) × (length d ≡ 2 + 4 * s.places)
  formed_03 (frame01 p k l) e = absurd (omega arith)
  formed_03 (frame02 p k l) e = absurd (omega arith)
  formed_03 (frame06 p k l n z) e = absurd (omega arith)
  formed_03 (frame03 p k l) e = (p, l)
  formed_03 (frame04 p k l i) e = absurd (omega arith)
  formed_03 (frame07 p k l i w) e = absurd (omega arith)
  formed_03 (frame05 p k q l m) e = absurd (omega arith)

  pub formed_04 : Formed s d → kind_of d ≡ 4 → (s.phase ≡ 4) × (length d ≡ 4 + 4 * s.places) × (byte_at d 1 ≡ s.next)
  formed_04 (frame01 p k l) e = absurd (omega arith)
  formed_04 (frame02 p k l) e = absurd (omega arith)
  formed_04 (frame06 p k l n z) e = absurd (omega arith)
  formed_04 (frame03 p k l) e = absurd (omega arith)
  formed_04 (frame04 p k l i) e = (p, l, i)
  formed_04 (frame07 p k l i w) e = absurd (omega arith)
  formed_04 (frame05 p k q l m) e = absurd (omega arith)

  pub formed_07 : Formed s d → kind_of d ≡ 7 → (s.phase ≡ 4) × (length d ≡ 4 + 8 * s.places) × (byte_at d 1 ≡ s.next) × SomeWide s d
  formed_07 (frame01 p k l) e = absurd (omega arith)
  formed_07 (frame02 p k l) e = absurd (omega arith)
  formed_07 (frame06 p k l n z) e = absurd (omega arith)
  formed_07 (frame03 p k l) e = absurd (omega arith)
  formed_07 (frame04 p k l i) e = absurd (omega arith)
  formed_07 (frame07 p k l i w) e = (p, l, i, w)
  formed_07 (frame05 p k q l m) e = absurd (omega arith)

  -- what both kinds of a transition's weights have
  pub formed_row : Formed s d → (kind_of d ≡ narrow_row) ⊎ (kind_of d ≡ wide_row) → (s.phase ≡ 4) × (length d ≡ 4 + 4 * (weight_bytes (kind_of d) * s.places)) × (byte_at d 1 ≡ s.next)
  formed_row f (inl e) = let z = formed_04 f e in (z.0, rw e (omega (arith, z.1)), z.2)
  formed_row f (inr e) = let z = formed_07 f e in (z.0, rw e (omega (arith, z.1)), z.2)

  pub formed_05 : Formed s d → kind_of d ≡ 5 → (s.phase ≡ 5) × (s.letters % block ≡ 0) × (4 ≤ length d) × (length d ≤ 2 + 2 * block)
  formed_05 (frame01 p k l) e = absurd (omega arith)
  formed_05 (frame02 p k l) e = absurd (omega arith)
  formed_05 (frame06 p k l n z) e = absurd (omega arith)
  formed_05 (frame03 p k l) e = absurd (omega arith)
  formed_05 (frame04 p k l i) e = absurd (omega arith)
  formed_05 (frame07 p k l i w) e = absurd (omega arith)
  formed_05 (frame05 p k q l m) e = (p, q, l, m)

  -- its test says so
  pub formed_of_lem : formed_of s d ≡ true → Formed s d
  unfolding formed_of formed_kind
  formed_of_lem e =
      let a = and-true (expected s (kind_of d)) (formed_kind (kind_of d) s d) e in
      go (kind_of d) refl (expected_says s (kind_of d) a.0) a.1
    where
      -- a kind but 03 stands where the state says
      at : (k : ℕ) → kind_of d ≡ k → (k ≡ 3 → ⊥) → (stands_as (kind_of d) ≡ s.phase) ⊎ ((s.phase ≡ 6) × (kind_of d ≡ 3)) → s.phase ≡ stands_as k
      at k q n (inl p) = sym p ∙ ap stands_as q
      at k q n (inr p) = absurd (n (sym q ∙ p.1))

      at_03 : kind_of d ≡ 3 → (stands_as (kind_of d) ≡ s.phase) ⊎ ((s.phase ≡ 6) × (kind_of d ≡ 3)) → (s.phase ≡ 6) ⊎ (s.phase ≡ 3)
      at_03 q (inl p) = inr (sym p ∙ ap stands_as q)
      at_03 q (inr p) = inl p.0

      go : (k : ℕ) → kind_of d ≡ k → (stands_as (kind_of d) ≡ s.phase) ⊎ ((s.phase ≡ 6) × (kind_of d ≡ 3)) → formed_kind k s d ≡ true → Formed s d
      go zero q p h = never (sym h)
      go (suc zero) q p h = frame01 (at 1 q (λ n. omega arith) p) q (eqb-true _ _ h)
      go (suc (suc zero)) q p h = frame02 (at 2 q (λ n. omega arith) p) q (eqb-true _ _ h)
      go (suc (suc (suc zero))) q p h = frame03 (at_03 q p) q (eqb-true _ _ h)
      go (suc (suc (suc (suc zero)))) q p h =
          let z = and-true (eqb (length d) (4 + 4 * s.places)) _ h in
          frame04 (at 4 q (λ n. omega arith) p) q (eqb-true _ _ z.0) (eqb-true _ _ z.1)
      go (suc (suc (suc (suc (suc zero))))) q p h =
          let z = and-true (eqb (s.letters % block) 0) _ h in
          let y = and-true (leb 4 (length d)) _ z.1 in
          frame05 (at 5 q (λ n. omega arith) p) q (eqb-true _ _ z.0) (leb-true _ _ y.0) (leb-true _ _ y.1)
      go (suc (suc (suc (suc (suc (suc zero)))))) q p h =
          let z = and-true (eqb (length d) (2 + 2 * mask_bytes)) _ h in
          let m = mask_some (mask_in d) s.places z.1 in
          frame06 (at 6 q (λ n. omega arith) p) q (eqb-true _ _ z.0) m.0 m.1
      go (suc (suc (suc (suc (suc (suc (suc zero))))))) q p h =
          let z = and-true (eqb (length d) (4 + 8 * s.places)) _ h in
          let y = and-true (eqb (byte_at d 1) s.next) _ z.1 in
          frame07 (at 7 q (λ n. omega arith) p) q (eqb-true _ _ z.0) (eqb-true _ _ y.0) (wide_some s d y.1)
      go (suc (suc (suc (suc (suc (suc (suc (suc k)))))))) q p h =
          never
          (sym h ∙ formed_rest s d (suc (suc (suc (suc (suc (suc (suc (suc k)))))))) (λ q. omega arith) (λ q. omega arith) (λ q. omega arith) (λ q. omega arith) (λ q. omega arith) (λ q. omega arith) (λ q. omega arith))

  pub formed_is : Formed s d → formed_of s d ≡ true
  unfolding formed_of formed_kind
  formed_is (frame01 p k l) = rw (k, p, l)
  formed_is (frame02 p k l) = rw (k, p) (eq-eqb _ _ l)
  formed_is (frame06 p k l n z) = rw (k, p, eq-eqb (length d) (2 + 2 * mask_bytes) l) (mask_is (mask_in d) s.places n z)
  formed_is (frame03 (inl p) k l) = rw (k, p) (eq-eqb _ _ l)
  formed_is (frame03 (inr p) k l) = rw (k, p) (eq-eqb _ _ l)
  formed_is (frame04 p k l i) = rw (k, p, eq-eqb (length d) (4 + 4 * s.places) l) (eq-eqb _ _ i)
  formed_is (frame07 p k l i w) = rw (k, p, eq-eqb (length d) (4 + 8 * s.places) l, eq-eqb (byte_at d 1) s.next i) (some_wide s d w)
  formed_is (frame05 p k q l m) = rw (k, p, eq-eqb (s.letters % block) 0 q, le-leb 4 (length d) l) (le-leb _ _ m)

-- no node hangs loose exactly where the net is wired
pub loose_none : (net : Net) → hangs_loose net ≡ false → Wired net
unfolding hangs_loose
loose_none net e = loose_met net (quiet (loose_fault net) e)
  where
    quiet : (f : Fault) → is_faulty f ≡ false → f ≡ Ok tt
    quiet (Ok _) q = refl
    quiet (Err r) q = never q

pub none_loose : (net : Net) → Wired net → hangs_loose net ≡ false
unfolding hangs_loose
none_loose net w = rw (met_loose net w)

-- each test and its demand
module _ (s : Reading) (d : List ℕ) (x : Rooms) where
  ruled_of : not (rule_of d) ≡ false → Ruled d
  ruled_of e = (rule_exactly d).0 (not-false _ e)

  of_ruled : Ruled d → not (rule_of d) ≡ false
  of_ruled r = rw ((rule_exactly d).1 r)

  form_of : not (formed_of s d) ≡ false → Formed s d
  form_of e = formed_of_lem s d (not-false _ e)

  of_form : Formed s d → not (formed_of s d) ≡ false
  of_form f = rw (formed_is s d f)

  counts_of : counts_bad d ≡ false → CountsInRange d
  counts_of e = record { places = λ h. inside_of (byte_at d 1) (two h).0; transitions = λ h. inside_of (byte_at d 2) (two h).1 }
    where
      two : kind_of d ≡ 1 → (outside (byte_at d 1) ≡ false) × (outside (byte_at d 2) ≡ false)
      two h = or-false (outside (byte_at d 1)) (outside (byte_at d 2)) (asked_of_lem (kind_of d) 1 _ e h)

  of_counts : CountsInRange d → counts_bad d ≡ false
  of_counts c =
      of_asked (kind_of d) 1 _ (λ h. both_false _ _ (inside_is (byte_at d 1) (c.places h).0 (c.places h).1) (inside_is (byte_at d 2) (c.transitions h).0 (c.transitions h).1))

  weights_of : weights_bad s d ≡ false → WeightsAllowed s d
  weights_of e = record { takes = λ h p l. (weights_light s d (heavy h) p l).0; puts = λ h p l. (weights_light s d (heavy h) p l).1 }
    where
      heavy : kind_of d ≡ wide_row → row_over weight_limit (takes_in wide_row d s.places) (puts_in wide_row d s.places) ≡ false
      heavy h = asked_of_lem (kind_of d) wide_row _ e h

  of_weights : WeightsAllowed s d → weights_bad s d ≡ false
  of_weights w = of_asked (kind_of d) wide_row _ (λ h. light_weights s d (λ p l. (w.takes h p l, w.puts h p l)))

  tokens_of : tokens_bad s d x ≡ false → TokensAllowed s d x
  unfolding marking_fault
  tokens_of e = record { fine = λ h. fine_of x.caps (tokens_in s d) (sound_refuse _ 3 _ (asked_of_lem (kind_of d) 3 _ e h)) }

  of_tokens : TokensAllowed s d x → tokens_bad s d x ≡ false
  unfolding marking_fault
  of_tokens t = of_asked (kind_of d) 3 _ (λ h. refuse_sound _ 3 _ (fine_is x.caps (tokens_in s d) (t.fine h)))

  net_of_lem : loose_bad s d (stored s d x) ≡ false → NetWired s d x
  net_of_lem e = record { wired = λ h l. loose_none _ (asked_of_lem (s.next + 1) s.transitions _ (row_asked (kind_of d) _ e h) l) }

  of_net : NetWired s d x → loose_bad s d (stored s d x) ≡ false
  of_net w = asked_row (kind_of d) _ (λ h. of_asked (s.next + 1) s.transitions _ (λ l. none_loose _ (w.wired h l)))

  word_of : word_over s d ≡ false → WordNotOver s d
  word_of e = record { few = λ h. ltb-false _ _ (asked_of_lem (kind_of d) 5 _ e h) }

  of_word : WordNotOver s d → word_over s d ≡ false
  of_word w = of_asked (kind_of d) 5 _ (λ h. le-ltb _ _ (w.few h))

  letters_of : letters_bad s d ≡ false → LettersNamed s d
  letters_of e = record { named = λ h. record { at = λ k b. named (ltb-false _ _ (asked_of_lem (kind_of d) 5 _ e h)) k b } }
    where
      named : length (word_part d) ≤ bad_letter s.transitions (word_part d) → (k : ℕ) → k < length (word_part d) → get_or (word_part d) k 0 < s.transitions
      named l k b = leb-false _ _ (first_below (λ k. leb s.transitions (get_or (word_part d) k 0)) (length (word_part d)) k (omega arith))

  of_letters : LettersNamed s d → letters_bad s d ≡ false
  of_letters l = of_asked (kind_of d) 5 _ (λ h. le-ltb _ _ (none (l.named h)))
    where
      none : Letters s.transitions (word_part d) → length (word_part d) ≤ bad_letter s.transitions (word_part d)
      none m =
          let e = first_none (λ k. leb s.transitions (get_or (word_part d) k 0)) (length (word_part d)) (λ k b. lt-leb _ _ (m.at k b)) in
          omega (arith, e)

  -- the chain, read demand by demand
  pub judged_chain : Chain (judge_of s d x) (Judged s d x)
  unfolding judge_of
  judged_chain =
      reads_all
      (reads_both (reads_test (tells_test (not (rule_of d)) 11 (line_here s) ruled_of of_ruled))
      (reads_both (reads_test (tells_test (not (formed_of s d)) 12 (line_here s) form_of of_form))
      (reads_both (reads_test (tells_test (counts_bad d) 1 (line_here s) counts_of of_counts))
      (reads_both (reads_test (tells_test (weights_bad s d) 18 (line_here s) weights_of of_weights))
      (reads_both (reads_test (tells_test (tokens_bad s d x) 3 (line_here s) tokens_of of_tokens))
      (reads_both (reads_test (tells_test (loose_bad s d (stored s d x)) 17 (line_here s) net_of_lem of_net))
      (reads_both (reads_test (tells_test (word_over s d) 4 (line_here s) word_of of_word))
      (reads_test (tells_test (letters_bad s d) 5 (line_here s) letters_of of_letters)))))))))

  -- nothing is refused exactly where all of it holds
  pub taken_of : judge_of s d x ≡ Ok tt → Taken s d x
  unfolding judge_of
  taken_of e =
      let a = or_sound (refuse (not (rule_of d)) 11 (line_here s)) _ e in
      let b = or_sound (refuse (not (formed_of s d)) 12 (line_here s)) _ a.1 in
      let c = or_sound (refuse (counts_bad d) 1 (line_here s)) _ b.1 in
      let j = or_sound (refuse (weights_bad s d) 18 (line_here s)) _ c.1 in
      let f = or_sound (refuse (tokens_bad s d x) 3 (line_here s)) _ j.1 in
      let i = or_sound (refuse (loose_bad s d (stored s d x)) 17 (line_here s)) _ f.1 in
      let g = or_sound (refuse (word_over s d) 4 (line_here s)) _ i.1 in
      record {
        ruled = ruled_of (refuse_sound _ 11 (line_here s) a.0);
        formed = form_of (refuse_sound _ 12 (line_here s) b.0);
        counts = counts_of (refuse_sound _ 1 (line_here s) c.0);
        weights = weights_of (refuse_sound _ 18 (line_here s) j.0);
        tokens = tokens_of (refuse_sound _ 3 (line_here s) f.0);
        net = net_of_lem (refuse_sound _ 17 (line_here s) i.0);
        word = word_of (refuse_sound _ 4 (line_here s) g.0);
        letters = letters_of (refuse_sound _ 5 (line_here s) g.1);
      }

  pub of_taken : Taken s d x → judge_of s d x ≡ Ok tt
  unfolding judge_of
  of_taken t =
      sound_or _ _ (sound_refuse _ 11 (line_here s) (of_ruled t.ruled))
      (sound_or _ _ (sound_refuse _ 12 (line_here s) (of_form t.formed))
      (sound_or _ _ (sound_refuse _ 1 (line_here s) (of_counts t.counts))
      (sound_or _ _ (sound_refuse _ 18 (line_here s) (of_weights t.weights))
      (sound_or _ _ (sound_refuse _ 3 (line_here s) (of_tokens t.tokens))
      (sound_or _ _ (sound_refuse _ 17 (line_here s) (of_net t.net))
      (sound_or _ _ (sound_refuse _ 4 (line_here s) (of_word t.word)) (sound_refuse _ 5 (line_here s) (of_letters t.letters))))))))

  -- what the walk needs of a line is told before it is stored
  pub asked_of_line : asked_of s d x ≡ Ok tt → Ruled d × Formed s d × CountsInRange d × WordNotOver s d
  unfolding asked_of
  asked_of_line e =
      let a = or_sound (refuse (not (rule_of d)) 11 (line_here s)) _ e in
      let b = or_sound (refuse (not (formed_of s d)) 12 (line_here s)) _ a.1 in
      let c = or_sound (refuse (counts_bad d) 1 (line_here s)) _ b.1 in
      let j = or_sound (refuse (weights_bad s d) 18 (line_here s)) _ c.1 in
      let f = or_sound (refuse (tokens_bad s d x) 3 (line_here s)) _ j.1 in
      let g = or_sound (refuse (word_over s d) 4 (line_here s)) _ f.1 in (
        ruled_of (refuse_sound _ 11 (line_here s) a.0),
        form_of (refuse_sound _ 12 (line_here s) b.0),
        counts_of (refuse_sound _ 1 (line_here s) c.0),
        word_of (refuse_sound _ 4 (line_here s) g.0),
      )

-- a line is asked only what its kind is asked
module _ (s : Reading) (d : List ℕ) (x : Rooms) where
  pub no_counts : (kind_of d ≡ 1 → ⊥) → CountsInRange d
  no_counts n = record { places = λ e. absurd (n e); transitions = λ e. absurd (n e) }

  pub no_weights : (kind_of d ≡ wide_row → ⊥) → WeightsAllowed s d
  no_weights n = record { takes = λ e. absurd (n e); puts = λ e. absurd (n e) }

  pub no_tokens : (kind_of d ≡ 3 → ⊥) → TokensAllowed s d x
  no_tokens n = record { fine = λ e. absurd (n e) }

  pub no_net : ((kind_of d ≡ narrow_row) ⊎ (kind_of d ≡ wide_row) → ⊥) → NetWired s d x
  no_net n = record { wired = λ e l. absurd (n e) }

  pub no_long : (kind_of d ≡ 5 → ⊥) → WordNotOver s d
  no_long n = record { few = λ e. absurd (n e) }

  pub no_letters : (kind_of d ≡ 5 → ⊥) → LettersNamed s d
  no_letters n = record { named = λ e. absurd (n e) }
