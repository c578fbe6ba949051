-- A line of each kind: the frame that it must be, and that the frame is taken. Assumes nothing.
use Rattle.std.specs.Prelude.{Ok, Err}
use Rattle.refusals.specs.Given.{refusal}
use mathlib.Core.Path.{◌≡◌, refl, sym, ◌∙◌, ap, subst}
use mathlib.Core.Bool.{Bool, true, false, cond}
use mathlib.Core.Logic.{◌⊎◌, inl, inr, ⊎_elim}
use mathlib.Core.List.{List, [], ◌∷◌, ◌++◌, append-nil}
use Prim.Native.Nat.{ℕ, ◌+◌, ◌*◌, ◌%◌, ◌≤◌, ◌<◌}
use native.Mathlib.Omega.{arith}
use native.Mathlib.Nat.{mul-le-mul_right}
use lib.Dec.{eqb}
use lib.ListN.{length, get_or}
use lib.Seq.{sets}
use borrow.Author.Tests.{eqb-true}
use Rattle.ground.specs.Limits.{count_limit, weight_limit, word_limit}
use Rattle.ground.proofs.Room.{weight_room}
use Rattle.weights.proofs.Heavies.{row_light}
use Rattle.file_digits.specs.Frame.{line_limit, line_feed, block, byte_at, bytes_from, words_from}
use Rattle.file_put.specs.Put.{digits_of, line_text, twos}
use Rattle.file_mask.specs.Mask.{mask_bytes, mask_limit, bits_of, above_bits, mask_in, eight}
use Rattle.file_mask.proofs.Masks.{eight_long, eight_small, mask_digits, digits_mask}
use Rattle.file_put.proofs.Round.{canon, digits_long, byte_digits, piece}
use Rattle.file_row.specs.Row.{byte_limit, narrow_row, wide_row, weight_bytes, is_wide, row_kind, row_frame, takes_in, puts_in}
use Rattle.file_row.proofs.Weights.{from_long}
use Rattle.file_row.proofs.Narrow.{kind_wide, kind_narrow, narrow_rows}
use Rattle.file_row.proofs.Framed.{frame_long, frame_small, kind_back, index_back, takes_back, puts_back, frame_canon}
use Rattle.file_line.specs.declared.Reading.{Reading}
use Rattle.wiring.specs.Wired.{Wired}
use Rattle.refusals.specs.Given.{Fine}
use Rattle.file_line.specs.declared.Rooms.{Rooms}
use Rattle.file_line.specs.Read.{rooms, stands_as, tokens_in, word_part, rule_of, judge_of, letters_in, advanced, advanced_kind, stored, stored_kind, net_in, line_here}
use Rattle.file_line.specs.Line.{SomeBit, NoBitPast, Formed, frame01, frame02, frame03, frame04, frame05, frame06, frame07, CountsInRange, WeightsAllowed, TokensAllowed, NetWired, WordNotOver, LettersNamed, Taken}
use Rattle.file_line.proofs.Digits.{rule_all, rule_exactly}
use Rattle.file_line.proofs.Order.{no_counts, no_weights, no_tokens, no_net, no_long, no_letters, formed_kind_lem, formed_01, formed_02, formed_03, formed_05, formed_06, formed_07, formed_row}
use Rattle.file_line.proofs.Weights.{wide_some, some_wide}
use Rattle.file_line.proofs.Meaning.{taken_exactly, wired_exactly}
use Rattle.file_parts.specs.File.{both, going, feed_all}
use Rattle.file_parts.proofs.Line.{line_taken, held}
use Rattle.file_digits.proofs.Bytes.{Below, none, more, below_of, of_below, below_more, below_most, bytes_long, bytes_split}
use Rattle.file_put.proofs.Twos.{twos_long, twos_small, words_bytes, words_digits}
use Rattle.file_text.proofs.Rules.{no_feed, rule_digits}

-- a state of the reading, by its numbers
abbrev pub state : ℕ → ℕ → ℕ → ℕ → ℕ → ℕ → Reading
state phase places transitions next letters line =
    record { phase = phase; places = places; transitions = transitions; next = next; letters = letters; line = line }

-- the frame f is taken at s with the rooms y, and leaves t and z
pub record Takes (s : Reading) (y : Rooms) (f : List ℕ) (t : Reading) (z : Rooms) : Type 0 where
  pub rule : rule_of (digits_of f) ≡ true
  pub judged : judge_of s (digits_of f) y ≡ Ok tt
  pub next : advanced s (digits_of f) ≡ t
  pub kept : stored s (digits_of f) y ≡ z

-- the bytes of its line, fed one by one
pub fed : (s : Reading) (y : Rooms) (f : List ℕ) (t : Reading) (z : Rooms) → Takes s y f t z → feed_all (both (going s []) y) (line_text f) ≡ both (going t []) z
unfolding feed_all
fed s y f t z k =
    let r = (rule_exactly (digits_of f)).0 k.rule in
    held s y (digits_of f) [] (line_feed ∷ []) (omega (arith, r.most)) (no_feed (digits_of f) (rule_all (digits_of f) k.rule))
    ∙ line_taken s (digits_of f) y k.judged
    ∙ ap (both (going (advanced s (digits_of f)) [])) k.kept
    ∙ ap (λ (u : Reading). both (going u []) z) k.next

-- the rooms y with the rows a and b of the next transition
abbrev pub rows_of : Reading → Rooms → List ℕ → List ℕ → Rooms
rows_of s y a b = rooms y.caps y.marks y.initial (sets y.pre (s.next * s.places) a) (sets y.post (s.next * s.places) b) y.word

-- the frame of each kind is taken
module _ (s : Reading) (y : Rooms) where
  takes : (k : ℕ) (g : List ℕ) (t : Reading) (z : Rooms) → Below 256 (k ∷ g) → 2 + 2 * length g ≤ line_limit
      → (byte_at (digits_of (k ∷ g)) 0 ≡ k
      → Formed s (digits_of (k ∷ g)) × CountsInRange (digits_of (k ∷ g)) × WeightsAllowed s (digits_of (k ∷ g)) × TokensAllowed s (digits_of (k ∷ g)) y × NetWired s (digits_of (k ∷ g)) y × WordNotOver s (digits_of (k ∷ g)) × LettersNamed s (digits_of (k ∷ g)))
      → advanced_kind k s (digits_of (k ∷ g)) ≡ t → stored_kind k s (digits_of (k ∷ g)) y ≡ z → Takes s y (k ∷ g) t z
  takes k g t z w h f a b =
      let d : List ℕ = digits_of (k ∷ g) in
      let e : byte_at d 0 ≡ k = byte_digits (k ∷ g) 0 w (omega arith) in
      let r = rule_digits (k ∷ g) w (omega arith) (omega arith) in
      let m = f e in
      record { rule = r; judged = (taken_exactly s d y).1 (record { ruled = (rule_exactly d).0 r; formed = m.0; counts = m.1; weights = m.2; tokens = m.3; net = m.4; word = m.5; letters = m.6 }); next = rw e a; kept = rw e b }

  pub takes_counts : (P T : ℕ) → s.phase ≡ 1 → 1 ≤ P → P ≤ count_limit → 1 ≤ T → T ≤ count_limit → Takes s y (1 ∷ P ∷ T ∷ []) (state 2 P T 0 0 (s.line + 1)) y
  unfolding advanced_kind stored_kind
  takes_counts P T p a b c h =
      let f : List ℕ = 1 ∷ P ∷ T ∷ [] in
      let d : List ℕ = digits_of f in
      let w : Below 256 f = more {x = 1} (omega arith) (more {x = P} (omega arith) (more {x = T} (omega arith) none)) in
      let n : length d ≡ 6 = digits_long f in
      let e : byte_at d 1 ≡ P = byte_digits f 1 w (omega arith) in
      let g : byte_at d 2 ≡ T = byte_digits f 2 w (omega arith) in
      takes 1 (P ∷ T ∷ []) _ _ w (omega arith)
      (λ q. (
        frame01 p q n,
        record { places = λ _. (omega arith, omega arith); transitions = λ _. (omega arith, omega arith) },
        no_weights s d y (λ k. omega arith),
        no_tokens s d y (λ k. omega arith),
        no_net s d y (⊎_elim (λ k. omega arith) (λ k. omega arith)),
        no_long s d y (λ k. omega arith),
        no_letters s d y (λ k. omega arith),
      ))
      (rw (e, g)) refl

  pub takes_caps : (caps : List ℕ) → s.phase ≡ 2 → s.places ≤ count_limit → length caps ≡ s.places → Below 65536 caps
      → Takes s y (2 ∷ twos caps) (state 6 s.places s.transitions 0 0 (s.line + 1)) (rooms (sets y.caps 0 caps) (sets y.marks 0 (bits_of 0 s.places)) y.initial y.pre y.post y.word)
  unfolding advanced_kind stored_kind
  takes_caps caps p h l w =
      let d : List ℕ = digits_of (2 ∷ twos caps) in
      let n : length d ≡ 2 + 4 * s.places = let a = digits_long (2 ∷ twos caps) in let b = twos_long caps in omega arith in
      takes 2 (twos caps) _ _ (more {x = 2} (omega arith) (twos_small caps w)) (omega (arith, twos_long caps))
      (λ q. (
        frame02 p q n,
        no_counts s d y (λ k. omega arith),
        no_weights s d y (λ k. omega arith),
        no_tokens s d y (λ k. omega arith),
        no_net s d y (⊎_elim (λ k. omega arith) (λ k. omega arith)),
        no_long s d y (λ k. omega arith),
        no_letters s d y (λ k. omega arith),
      ))
      refl (rw (words_digits 2 s.places caps (omega arith) w l))

  pub takes_pockets : (m : ℕ) → s.phase ≡ 6 → m < mask_limit → (m ≡ 0 → ⊥) → above_bits m s.places ≡ 0
      → Takes s y (6 ∷ eight m) (state 3 s.places s.transitions 0 0 (s.line + 1)) (rooms y.caps (sets y.marks 0 (bits_of m s.places)) y.initial y.pre y.post y.word)
  unfolding advanced_kind stored_kind
  takes_pockets m p h some past =
      let d : List ℕ = digits_of (6 ∷ eight m) in
      let n : length d ≡ 2 + 2 * mask_bytes = let a = digits_long (6 ∷ eight m) in let b = eight_long m in omega arith in
      let e : mask_in d ≡ m = mask_digits m h in
      takes 6 (eight m) _ _ (more {x = 6} (omega arith) (eight_small m)) (omega (arith, eight_long m))
      (λ q. (
        frame06 p q n (λ z. some (sym e ∙ z)) (rw e past),
        no_counts s d y (λ k. omega arith),
        no_weights s d y (λ k. omega arith),
        no_tokens s d y (λ k. omega arith),
        no_net s d y (⊎_elim (λ k. omega arith) (λ k. omega arith)),
        no_long s d y (λ k. omega arith),
        no_letters s d y (λ k. omega arith),
      ))
      refl (rw e)

  pub takes_tokens : (initial : List ℕ) → (s.phase ≡ 6) ⊎ (s.phase ≡ 3) → s.places ≤ count_limit → length initial ≡ s.places → Below 65536 initial
      → Fine y.caps initial
      → Takes s y (3 ∷ twos initial) (state 4 s.places s.transitions 0 0 (s.line + 1)) (rooms y.caps y.marks (sets y.initial 0 initial) y.pre y.post y.word)
  unfolding advanced_kind stored_kind
  takes_tokens initial p h l w v =
      let d : List ℕ = digits_of (3 ∷ twos initial) in
      let n : length d ≡ 2 + 4 * s.places = let a = digits_long (3 ∷ twos initial) in let b = twos_long initial in omega arith in
      let e = words_digits 3 s.places initial (omega arith) w l in
      takes 3 (twos initial) _ _ (more {x = 3} (omega arith) (twos_small initial w)) (omega (arith, twos_long initial))
      (λ q. (
        frame03 p q n,
        no_counts s d y (λ k. omega arith),
        no_weights s d y (λ k. omega arith),
        record { fine = λ _. rw e v },
        no_net s d y (⊎_elim (λ k. omega arith) (λ k. omega arith)),
        no_long s d y (λ k. omega arith),
        no_letters s d y (λ k. omega arith),
      ))
      refl (rw e)

  -- the state after the row of a transition
  abbrev row_state : Reading
  row_state = state (cond (eqb (s.next + 1) s.transitions) 5 4) s.places s.transitions (s.next + 1) 0 (s.line + 1)

  -- the frame of a transition's weights is well formed, and stores its two rows
  module _ (a b : List ℕ) (p : s.phase ≡ 4) (h : s.places ≤ count_limit) (t : s.next ≤ count_limit) (la : length a ≡ s.places) (lb : length b ≡ s.places) (wa : Below (weight_limit + 1) a) (wb : Below (weight_limit + 1) b) where
    abbrev row_digits : List ℕ
    row_digits = digits_of (row_frame s.next a b)

    a_fits : Below 65536 a
    a_fits = below_more 65536 a (omega (arith, weight_room)) wa

    b_fits : Below 65536 b
    b_fits = below_more 65536 b (omega (arith, weight_room)) wb

    kind : byte_at row_digits 0 ≡ row_kind a b
    kind = kind_back s.next s.places a b (omega arith) la lb a_fits b_fits

    takes_a : takes_in (row_kind a b) row_digits s.places ≡ a
    takes_a = takes_back s.next s.places a b (omega arith) la lb a_fits b_fits

    puts_b : puts_in (row_kind a b) row_digits s.places ≡ b
    puts_b = puts_back s.next s.places a b (omega arith) la lb a_fits b_fits

    row_digits_lem : length row_digits ≡ 4 + 4 * (weight_bytes (row_kind a b) * s.places)
    row_digits_lem = omega (arith, digits_long (row_frame s.next a b), frame_long s.next s.places a b la lb)

    index : byte_at row_digits 1 ≡ s.next
    index = index_back s.next s.places a b (omega arith) la lb a_fits b_fits

    row_rule : weight_bytes (row_kind a b) ≤ 2 → rule_of row_digits ≡ true
    row_rule few =
        let z : weight_bytes (row_kind a b) * s.places ≤ 2 * s.places = mul-le-mul_right s.places few in
        rule_digits (row_frame s.next a b) (frame_small s.next s.places a b (omega arith) la lb a_fits b_fits)
        (omega arith) (omega (arith, frame_long s.next s.places a b la lb))

    light : WeightsAllowed s row_digits
    light = record { takes = λ e q l. (each e q l).0; puts = λ e q l. (each e q l).1 }
      where
        each : byte_at row_digits 0 ≡ wide_row → (q : ℕ) → q < s.places → (get_or (takes_in wide_row row_digits s.places) q 0 ≤ weight_limit) × (get_or (puts_in wide_row row_digits s.places) q 0 ≤ weight_limit)
        each e q l =
            let k : row_kind a b ≡ wide_row = sym kind ∙ e in
            let u : takes_in wide_row row_digits s.places ≡ a = subst (λ (j : ℕ). takes_in j row_digits s.places ≡ a) k takes_a in
            let v : puts_in wide_row row_digits s.places ≡ b = subst (λ (j : ℕ). puts_in j row_digits s.places ≡ b) k puts_b in
            rw (u, v) (below_most weight_limit a q wa, below_most weight_limit b q wb)

    pub row_formed : (rule_of row_digits ≡ true) × Formed s row_digits × WeightsAllowed s row_digits × ((byte_at row_digits 0 ≡ narrow_row) ⊎ (byte_at row_digits 0 ≡ wide_row)) × (stored s row_digits y ≡ rows_of s y a b) × (advanced s row_digits ≡ row_state)
    unfolding stored_kind advanced_kind
    row_formed = go (is_wide a b) refl
      where
        go : (w : Bool) → is_wide a b ≡ w → (rule_of row_digits ≡ true) × Formed s row_digits × WeightsAllowed s row_digits × ((byte_at row_digits 0 ≡ narrow_row) ⊎ (byte_at row_digits 0 ≡ wide_row)) × (stored s row_digits y ≡ rows_of s y a b) × (advanced s row_digits ≡ row_state)
        go true w =
            let k : row_kind a b ≡ wide_row = kind_wide a b w in
            let e : byte_at row_digits 0 ≡ wide_row = kind ∙ k in
            let u : takes_in wide_row row_digits s.places ≡ a = subst (λ (j : ℕ). takes_in j row_digits s.places ≡ a) k takes_a in
            let v : puts_in wide_row row_digits s.places ≡ b = subst (λ (j : ℕ). puts_in j row_digits s.places ≡ b) k puts_b in
            let n : length row_digits ≡ 4 + 8 * s.places = row_digits_lem ∙ ap (λ (j : ℕ). 4 + 4 * (weight_bytes j * s.places)) k ∙ omega arith in
            let i : is_wide (takes_in wide_row row_digits s.places) (puts_in wide_row row_digits s.places) ≡ true = rw (u, v) w in
            (row_rule (rw k (omega arith)), frame07 p e n index (wide_some s row_digits i), light, inr e, rw (e, u, v), rw e)
        go false w =
            let k : row_kind a b ≡ narrow_row = kind_narrow a b w in
            let e : byte_at row_digits 0 ≡ narrow_row = kind ∙ k in
            let u : takes_in narrow_row row_digits s.places ≡ a = subst (λ (j : ℕ). takes_in j row_digits s.places ≡ a) k takes_a in
            let v : puts_in narrow_row row_digits s.places ≡ b = subst (λ (j : ℕ). puts_in j row_digits s.places ≡ b) k puts_b in
            let n : length row_digits ≡ 4 + 4 * s.places = row_digits_lem ∙ ap (λ (j : ℕ). 4 + 4 * (weight_bytes j * s.places)) k ∙ omega arith in
            (row_rule (rw k (omega arith)), frame04 p e n index, light, inl e, rw (e, u, v), rw e)

    -- it is of no other kind
    other : (j : ℕ) → (j ≡ narrow_row → ⊥) → (j ≡ wide_row → ⊥) → byte_at row_digits 0 ≡ j → ⊥
    other j m n q = ⊎_elim (λ k. m (sym q ∙ k)) (λ k. n (sym q ∙ k)) row_formed.3

    pub takes_row : (s.next + 1 ≡ s.transitions → Wired (net_in s (rows_of s y a b))) → Takes s y (row_frame s.next a b) row_state (rows_of s y a b)
    takes_row wired =
        let r = row_formed in
        let asked : Taken s row_digits y = record {
          ruled = (rule_exactly row_digits).0 r.0;
          formed = r.1;
          counts = no_counts s row_digits y (other 1 (λ q. omega arith) (λ q. omega arith));
          weights = r.2;
          tokens = no_tokens s row_digits y (other 3 (λ q. omega arith) (λ q. omega arith));
          net = record { wired = λ _ l. subst (λ (z : Rooms). Wired (net_in s z)) (sym r.4) (wired l) };
          word = no_long s row_digits y (other 5 (λ q. omega arith) (λ q. omega arith));
          letters = no_letters s row_digits y (other 5 (λ q. omega arith) (λ q. omega arith));
        } in
        record { rule = r.0; judged = (taken_exactly s row_digits y).1 asked; next = r.5; kept = r.4 }

    -- where the net hangs loose with the last row, its line is refused
    pub loose_row : s.next + 1 ≡ s.transitions → (Wired (net_in s (rows_of s y a b)) → ⊥) → judge_of s row_digits y ≡ Err (refusal 17 (line_here s))
    loose_row l loose =
        let r = row_formed in
        (wired_exactly s row_digits y (line_here s)).1 ((rule_exactly row_digits).0 r.0, r.1, r.2, r.3, l, λ w. loose (subst (λ (z : Rooms). Wired (net_in s z)) r.4 w), refl)

  pub takes_letters : (v : List ℕ) → s.phase ≡ 5 → s.letters % block ≡ 0 → s.transitions ≤ count_limit → 1 ≤ length v → length v ≤ block
      → s.letters + length v ≤ word_limit → Below s.transitions v
      → Takes s y (5 ∷ v) (state 5 s.places s.transitions s.next (s.letters + length v) (s.line + 1))
      (rooms y.caps y.marks y.initial y.pre y.post (sets y.word s.letters v))
  unfolding advanced_kind stored_kind
  takes_letters v p q t l h m w =
      let d : List ℕ = digits_of (5 ∷ v) in
      let b : Below 256 (5 ∷ v) = more {x = 5} (omega arith) (below_more 256 v (omega arith) w) in
      let n : length d ≡ 2 + 2 * length v = digits_long (5 ∷ v) ∙ omega arith in
      let i : letters_in d ≡ length v = omega arith in
      let c : Below 256 (5 ∷ (v ++ [])) = rw append-nil b in
      let u : bytes_from d 1 (length v) ≡ v = rw append-nil at (piece (5 ∷ []) v [] c) in
      takes 5 v _ _ b (omega arith)
      (λ e. (
        frame05 p e q (omega arith) (omega arith),
        no_counts s d y (λ k. omega arith),
        no_weights s d y (λ k. omega arith),
        no_tokens s d y (λ k. omega arith),
        no_net s d y (⊎_elim (λ k. omega arith) (λ k. omega arith)),
        record { few = λ _. omega arith },
        record { named = λ _. rw (i, u) (record { at = λ k r. of_below s.transitions v k w r }) },
      ))
      (rw i) (rw (i, u))

-- the kind, and then the other bytes
kind_then : (d l : List ℕ) → bytes_from d 0 1 ++ l ≡ byte_at d 0 ∷ l
unfolding bytes_from
kind_then d l = refl

-- and no other line of its kind is
module _ (s : Reading) (d : List ℕ) (y : Rooms) (j : judge_of s d y ≡ Ok tt) where
  asked : Taken s d y
  asked = (taken_exactly s d y).0 j

  -- its kind is the one that must come next, or 06 or 03 where both may, or 04 or 07
  own_kind : (s.phase ≡ narrow_row → ⊥) → stands_as (byte_at d 0) ≡ s.phase → byte_at d 0 ≡ s.phase
  own_kind m = go (eqb (byte_at d 0) wide_row)
    where
      go : (b : Bool) → cond b narrow_row (byte_at d 0) ≡ s.phase → byte_at d 0 ≡ s.phase
      go true e = absurd (m (sym e))
      go false e = e

  pub kind_next : (s.phase ≡ 6 → ⊥) → (s.phase ≡ narrow_row → ⊥) → byte_at d 0 ≡ s.phase
  kind_next n m = ⊎_elim (own_kind m) (λ z. absurd (n z.0)) (formed_kind_lem s d asked.formed).2

  pub kind_pockets : s.phase ≡ 6 → (byte_at d 0 ≡ 6) ⊎ (byte_at d 0 ≡ 3)
  kind_pockets p = ⊎_elim (λ e. inl (own_kind (λ z. omega arith) e ∙ p)) (λ z. inr z.1) (formed_kind_lem s d asked.formed).2

  pub kind_row : s.phase ≡ narrow_row → (byte_at d 0 ≡ narrow_row) ⊎ (byte_at d 0 ≡ wide_row)
  kind_row p = ⊎_elim (go (eqb (byte_at d 0) wide_row) refl) (λ z. absurd (let q = z.0 in omega arith)) (formed_kind_lem s d asked.formed).2
    where
      go : (b : Bool) → eqb (byte_at d 0) wide_row ≡ b → cond b narrow_row (byte_at d 0) ≡ s.phase → (byte_at d 0 ≡ narrow_row) ⊎ (byte_at d 0 ≡ wide_row)
      go true q e = inr (eqb-true _ _ q)
      go false q e = inl (e ∙ p)

  line_of : (n : ℕ) → length d ≡ 2 * n → d ≡ digits_of (bytes_from d 0 n)
  line_of n e = sym (canon n d e (rule_all d ((rule_exactly d).1 asked.ruled)))

  words_of : (k n : ℕ) → length d ≡ 2 + 4 * n → byte_at d 0 ≡ k → d ≡ digits_of (k ∷ twos (words_from d 1 n))
  unfolding bytes_from
  words_of k n e h = line_of (1 + 2 * n) (omega arith) ∙ ap digits_of (bytes_split d 0 1 (2 * n) ∙ rw (h, words_bytes d 1 n))

  pub counts_of : s.phase ≡ 1 → (d ≡ digits_of (1 ∷ byte_at d 1 ∷ byte_at d 2 ∷ [])) × (1 ≤ byte_at d 1) × (byte_at d 1 ≤ count_limit) × (1 ≤ byte_at d 2) × (byte_at d 2 ≤ count_limit)
  unfolding bytes_from
  counts_of p =
      let e : byte_at d 0 ≡ 1 = kind_next (λ z. omega arith) (λ z. omega arith) ∙ p in
      let a = asked.counts.places e in
      let b = asked.counts.transitions e in
      let three : bytes_from d 0 3 ≡ byte_at d 0 ∷ byte_at d 1 ∷ byte_at d 2 ∷ [] = refl in
      (line_of 3 (formed_01 s d asked.formed e).1 ∙ ap digits_of (three ∙ rw e), a.0, a.1, b.0, b.1)

  pub caps_of : s.phase ≡ 2 → d ≡ digits_of (2 ∷ twos (words_from d 1 s.places))
  caps_of p = let e : byte_at d 0 ≡ 2 = kind_next (λ z. omega arith) (λ z. omega arith) ∙ p in words_of 2 s.places (formed_02 s d asked.formed e).1 e

  pub pockets_of : byte_at d 0 ≡ 6 → (d ≡ digits_of (6 ∷ eight (mask_in d))) × SomeBit d × NoBitPast s d
  pockets_of e =
      let f = formed_06 s d asked.formed e in
      (line_of (1 + mask_bytes) (f.1 ∙ omega arith) ∙ ap digits_of (bytes_split d 0 1 mask_bytes ∙ kind_then d (bytes_from d 1 mask_bytes) ∙ (λ i. e i ∷ digits_mask d i)), f.2, f.3)

  pub tokens_of : byte_at d 0 ≡ 3 → d ≡ digits_of (3 ∷ twos (words_from d 1 s.places))
  tokens_of e = words_of 3 s.places (formed_03 s d asked.formed e).1 e

  pub tokens_fine : byte_at d 0 ≡ 3 → Fine y.caps (tokens_in s d)
  tokens_fine e = asked.tokens.fine e

  -- the rows of a transition's weights
  abbrev takes_here : List ℕ
  takes_here = takes_in (byte_at d 0) d s.places

  abbrev puts_here : List ℕ
  puts_here = puts_in (byte_at d 0) d s.places

  -- no weight is over 255 in an 04, and some is in an 07
  row_kind_lem : (byte_at d 0 ≡ narrow_row) ⊎ (byte_at d 0 ≡ wide_row) → row_kind takes_here puts_here ≡ byte_at d 0
  row_kind_lem (inl e) = rw e (kind_narrow (takes_in narrow_row d s.places) (puts_in narrow_row d s.places) (narrow_rows d s.places))
  row_kind_lem (inr e) = rw e (kind_wide (takes_in wide_row d s.places) (puts_in wide_row d s.places) (some_wide s d (formed_07 s d asked.formed e).3))

  pub row_of : s.phase ≡ narrow_row → d ≡ digits_of (row_frame s.next takes_here puts_here)
  row_of p =
      let k = kind_row p in
      let f = formed_row s d asked.formed k in
      frame_canon (byte_at d 0) s.next s.places d (rule_all d ((rule_exactly d).1 asked.ruled)) f.1 refl f.2 (row_kind_lem k)

  -- none is over the limit
  pub row_below : s.phase ≡ narrow_row → Below (weight_limit + 1) takes_here × Below (weight_limit + 1) puts_here
  row_below p = (
    below_of (weight_limit + 1) takes_here (λ q h. omega (arith, (each (kind_row p) q (rw (from_long (byte_at d 0) d 2 s.places) at h)).0)),
    below_of (weight_limit + 1) puts_here (λ q h. omega (arith, (each (kind_row p) q (rw (from_long (byte_at d 0) d (2 + weight_bytes (byte_at d 0) * s.places) s.places) at h)).1)),
  )
    where
      each : (byte_at d 0 ≡ narrow_row) ⊎ (byte_at d 0 ≡ wide_row) → (q : ℕ) → q < s.places → (get_or takes_here q 0 ≤ weight_limit) × (get_or puts_here q 0 ≤ weight_limit)
      each (inl e) q h =
          let z = row_light byte_limit (takes_in narrow_row d s.places) (puts_in narrow_row d s.places) (narrow_rows d s.places) q (rw (from_long narrow_row d 2 s.places) h) in
          rw e (omega (arith, z), omega (arith, z))
      each (inr e) q h = rw e (asked.weights.takes e q h, asked.weights.puts e q h)

  -- it stores them, and goes on
  pub row_keeps : s.phase ≡ narrow_row → stored s d y ≡ rows_of s y takes_here puts_here
  unfolding stored_kind
  row_keeps p = ⊎_elim (λ e. rw e) (λ e. rw e) (kind_row p)

  pub row_advances : s.phase ≡ narrow_row → advanced s d ≡ row_state s y
  unfolding advanced_kind
  row_advances p = ⊎_elim (λ e. rw e) (λ e. rw e) (kind_row p)

  pub row_wired : s.phase ≡ narrow_row → s.next + 1 ≡ s.transitions → Wired (net_in s (rows_of s y takes_here puts_here))
  row_wired p l = subst (λ (z : Rooms). Wired (net_in s z)) (row_keeps p) (asked.net.wired (kind_row p) l)

  pub letters_of : s.phase ≡ 5
      → (s.letters % block ≡ 0) × (1 ≤ letters_in d) × (letters_in d ≤ block) × (s.letters + letters_in d ≤ word_limit)
      × (d ≡ digits_of (5 ∷ bytes_from d 1 (letters_in d))) × Below s.transitions (bytes_from d 1 (letters_in d))
  unfolding bytes_from
  letters_of p =
      let e : byte_at d 0 ≡ 5 = kind_next (λ z. omega arith) (λ z. omega arith) ∙ p in
      let f = formed_05 s d asked.formed e in
      let even : length d % 2 ≡ 0 = asked.ruled.even in
      let lo : 4 ≤ length d = f.2 in
      let hi : length d ≤ 2 + 2 * block = f.3 in
      let n : length d ≡ 2 * (1 + letters_in d) = omega arith in
      let l : length (bytes_from d 1 (letters_in d)) ≡ letters_in d = bytes_long d 1 (letters_in d) in (
        f.1,
        omega arith,
        omega arith,
        asked.word.few e,
        line_of (1 + letters_in d) n ∙ ap digits_of (bytes_split d 0 1 (letters_in d) ∙ rw e),
        below_of s.transitions (word_part d) (asked.letters.named e).at,
      )
