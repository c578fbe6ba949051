-- A reading so far: its state, its rooms and the bytes read are those of the first lines of a file. Assumes nothing.
use Rattle.std.specs.Prelude.{Ok}
use mathlib.Core.Path.{◌≡◌, refl, sym, ◌∙◌, ap, subst}
use mathlib.Core.Bool.{Bool, true, false, cond}
use mathlib.Core.List.{List, [], ◌∷◌, ◌++◌, append_assoc, append-nil}
use mathlib.Core.Logic.{◌⊎◌, inl, inr, ⊎_elim}
use Prim.Native.Nat.{ℕ, zero, suc, ◌+◌, ◌*◌, ◌≤◌, ◌<◌}
use native.Mathlib.Omega.{arith}
use native.Mathlib.Nat.{suc-mul, mul-le-mul}
use lib.Dec.{eqb}
use lib.ListN.{length, take, drop, length-append, length-drop}
use lib.Seq.{sets, drop-append-le, take-append-le, drop_at, take_all}
use borrow.Author.Tests.{eqb-true, eqb-false, eq-eqb, ne_eqb}
use Rattle.ground.specs.Limits.{count_limit, weight_limit, word_limit}
use Rattle.ground.proofs.Stores.{sets_both}
use Rattle.file_digits.specs.Frame.{block, line_feed, byte_at, bytes_from, words_from}
use Rattle.file_put.specs.Put.{line_text}
use Rattle.net.specs.Net.{Net, net_of}
use Rattle.net.specs.Letter.{row}
use Rattle.net.proofs.Rows.{row_end}
use Rattle.wiring.specs.Wired.{Wired}
use Rattle.refusals.specs.Given.{Fine}
use Rattle.file_row.specs.Row.{weight_bytes, takes_in, puts_in}
use Rattle.file_row.proofs.Weights.{from_long}
use Rattle.file_line.specs.declared.Reading.{Reading}
use Rattle.file_line.specs.declared.Rooms.{Rooms}
use Rattle.file_line.specs.Read.{cell_limit, rooms, fresh, judge_of, letters_in, advanced, advanced_kind, stored, stored_kind, net_in}
use Rattle.file_line.specs.Walk.{Large}
use Rattle.file_line.proofs.Meaning.{taken_exactly}
use Rattle.file_mask.specs.Mask.{Bits, mask_of, bits_of, mask_in, eight}
use Rattle.file_mask.proofs.Masks.{bits_long, bits_small, bits_none, mask_none, mask_of_bits}
use Rattle.file_text.specs.Text.{counts_line, caps_line, pockets_line, pockets_lines, pockets_count, tokens_line, row_line, letters_line, letters_lines, joined, file_of, end_of, filled}
use Rattle.file_text.specs.Refusal.{TakenLines, no_line, one_more}
use Rattle.file_digits.proofs.Bytes.{Below, none, below_append, bytes_long, words_long, words_small}
use Rattle.file_text.proofs.Fronts.{get_d_sets, front_of, sets_again}
use Rattle.file_text.proofs.Lines.{state, kind_next, kind_pockets, counts_of, caps_of, pockets_of, tokens_of, tokens_fine, row_of, row_below, row_keeps, row_advances, row_wired, letters_of}

-- a net with its first n rows, and a marking, within the limits
pub record Rowed (net : Net) (n : ℕ) (initial : List ℕ) : Type 0 where
  pub some_places : 1 ≤ net.places
  pub few_places : net.places ≤ count_limit
  pub some_transitions : 1 ≤ net.transitions
  pub few_transitions : net.transitions ≤ count_limit
  pub capped : length net.caps ≡ net.places
  pub capacities : Below 65536 net.caps
  pub noted : length net.marks ≡ net.places
  pub bits : Bits net.marks
  pub marked : length initial ≡ net.places
  pub fine : Fine net.caps initial
  pub pres : length net.pre ≡ n * net.places
  pub posts : length net.post ≡ n * net.places
  pub takes : Below (weight_limit + 1) net.pre
  pub puts : Below (weight_limit + 1) net.post

-- a whole net, a marking and a word within the limits
pub record Listed (net : Net) (initial w : List ℕ) : Type 0 where
  pub rowed : Rowed net net.transitions initial
  pub wired : Wired net
  pub short : length w ≤ word_limit
  pub letters : Below net.transitions w

-- a whole net stands in the rooms that it was stored in
pub held_net_lem : (x : Rooms) → Large x → (net : Net) (n : ℕ) (initial w : List ℕ) → Rowed net n initial → n ≡ net.transitions
    → (s : Reading) → s.places ≡ net.places → s.transitions ≡ net.transitions → net_in s (filled x net initial w) ≡ net
held_net_lem x big net n initial w r m s p t =
    let z : net.transitions * net.places ≤ cell_limit = mul-le-mul r.few_transitions r.few_places in
    let f : length net.pre ≡ net.transitions * net.places = rw m at r.pres in
    let g : length net.post ≡ net.transitions * net.places = rw m at r.posts in
    let a = front_of net.pre x.pre (net.transitions * net.places) f (omega (arith, big.pre)) in
    let b = front_of net.post x.post (net.transitions * net.places) g (omega (arith, big.post)) in
    let c = front_of net.caps x.caps net.places r.capped (omega (arith, r.few_places, big.caps)) in
    let k = front_of net.marks x.marks net.places r.noted (omega (arith, r.few_places, big.marks)) in
    rw (p, t, a, b, c, k)

-- the lines before the rows
abbrev pub head : Net → List ℕ → List ℕ
head net initial = counts_line net.places net.transitions ++ caps_line net.caps ++ pockets_lines net.marks ++ tokens_line initial

-- the kind that comes after the capacities and marks: 06 or 03, or 03 alone where there was a 06
unfoldable pub phase_of : List ℕ → ℕ
phase_of marks = cond (eqb (mask_of marks) 0) 6 3

-- no 06 where no place is a pocket, else one
module _ (marks : List ℕ) where
  module _ (z : mask_of marks ≡ 0) where
    pub plain_phase : phase_of marks ≡ 6
    unfolding phase_of
    plain_phase = rw (eq-eqb (mask_of marks) 0 z)

    pub plain_count : pockets_count marks ≡ 0
    unfolding pockets_count
    plain_count = rw (eq-eqb (mask_of marks) 0 z)

    pub plain_lines : pockets_lines marks ≡ []
    unfolding pockets_lines
    plain_lines = rw (eq-eqb (mask_of marks) 0 z)

  module _ (n : mask_of marks ≡ 0 → ⊥) where
    pub pocket_phase : phase_of marks ≡ 3
    unfolding phase_of
    pocket_phase = rw (ne_eqb (mask_of marks) 0 n)

    pub pocket_count : pockets_count marks ≡ 1
    unfolding pockets_count
    pocket_count = rw (ne_eqb (mask_of marks) 0 n)

    pub pocket_lines : pockets_lines marks ≡ pockets_line marks
    unfolding pockets_lines
    pocket_lines = rw (ne_eqb (mask_of marks) 0 n)

-- a 03 may come either way
pub phase_either : (marks : List ℕ) → (phase_of marks ≡ 6) ⊎ (phase_of marks ≡ 3)
phase_either marks = go (eqb (mask_of marks) 0) refl
  where
    go : (t : Bool) → eqb (mask_of marks) 0 ≡ t → (phase_of marks ≡ 6) ⊎ (phase_of marks ≡ 3)
    go true t = inl (plain_phase marks (eqb-true _ _ t))
    go false t = inr (pocket_phase marks (eqb-false _ _ t))

pub count_most : (marks : List ℕ) → pockets_count marks ≤ 1
count_most marks = go (eqb (mask_of marks) 0) refl
  where
    go : (t : Bool) → eqb (mask_of marks) 0 ≡ t → pockets_count marks ≤ 1
    go true t = omega (arith, plain_count marks (eqb-true _ _ t))
    go false t = omega (arith, pocket_count marks (eqb-false _ _ t))

-- the rooms with capacities and marks
abbrev pub capped_rooms : Rooms → List ℕ → List ℕ → Rooms
capped_rooms x caps marks = rooms (sets x.caps 0 caps) (sets x.marks 0 marks) x.initial x.pre x.post x.word

-- the state with them
abbrev pub capped_state : ℕ → ℕ → List ℕ → Reading
capped_state P T marks = state (phase_of marks) P T 0 0 (2 + pockets_count marks)

-- rows of a list that grows at its end, and the lines made of them
pub row_before : (P k n : ℕ) (l a : List ℕ) → k < n → length l ≡ n * P → row P k (l ++ a) ≡ row P k l
row_before P k n l a h e =
    let z = row_end k n P h in
    ap (take P) (drop-append-le (k * P) l a (omega arith)) ∙ take-append-le P (drop (k * P) l) a (omega (arith, length-drop (k * P) l))

pub row_last : (P n : ℕ) (l a : List ℕ) → length l ≡ n * P → length a ≤ P → row P n (l ++ a) ≡ a
row_last P n l a e h = ap (take P) (drop_at l a (n * P) e) ∙ take_all P a h

pub joined_same : (f g : ℕ → List ℕ) (n : ℕ) → ((k : ℕ) → k < n → f k ≡ g k) → joined f n ≡ joined g n
unfolding joined
joined_same f g zero h = refl
joined_same f g (suc n) h =
    ap (λ (l : List ℕ). l ++ f n) (joined_same f g n (λ k b. h k (omega arith))) ∙ ap (λ (l : List ℕ). joined g n ++ l) (h n (omega arith))

-- how far a reading that began with the rooms x has come: s and y are its state and rooms, p the lines read
pub data Stage (x : Rooms) (s : Reading) (y : Rooms) (p : List ℕ) : Type 0 where
  start : s ≡ fresh → y ≡ x → p ≡ [] → Stage x s y p
  counted : (P T : ℕ) → 1 ≤ P → P ≤ count_limit → 1 ≤ T → T ≤ count_limit
      → s ≡ state 2 P T 0 0 1 → y ≡ x → p ≡ counts_line P T → Stage x s y p
  capped : (P T : ℕ) (caps marks : List ℕ) → 1 ≤ P → P ≤ count_limit → 1 ≤ T → T ≤ count_limit → length caps ≡ P → Below 65536 caps → length marks ≡ P → Bits marks
      → s ≡ capped_state P T marks → y ≡ capped_rooms x caps marks → p ≡ counts_line P T ++ caps_line caps ++ pockets_lines marks → Stage x s y p
  rowed : (net : Net) (n : ℕ) (initial : List ℕ) → Rowed net n initial → n < net.transitions
      → s ≡ state 4 net.places net.transitions n 0 (3 + pockets_count net.marks + n) → y ≡ filled x net initial [] → p ≡ head net initial ++ joined (row_line net) n → Stage x s y p
  lettered : (net : Net) (initial w : List ℕ) → Listed net initial w → s ≡ end_of net w → y ≡ filled x net initial w → p ≡ file_of net initial w → Stage x s y p

-- one line more, from each stage
module _ (x : Rooms) (big : Large x) (d : List ℕ) where
  step_start : judge_of fresh d x ≡ Ok tt → Stage x (advanced fresh d) (stored fresh d x) ([] ++ (d ++ (line_feed ∷ [])))
  unfolding advanced_kind stored_kind
  step_start j =
      let e : byte_at d 0 ≡ 1 = kind_next fresh d x j (λ z. omega arith) (λ z. omega arith) in
      let c = counts_of fresh d x j refl in
      counted (byte_at d 1) (byte_at d 2) c.1 c.2 c.3 c.4 (rw e) (rw e) (ap (λ (l : List ℕ). l ++ (line_feed ∷ [])) c.0)

  module _ (P T : ℕ) (a : 1 ≤ P) (b : P ≤ count_limit) (f : 1 ≤ T) (g : T ≤ count_limit) where
    step_counted : judge_of (state 2 P T 0 0 1) d x ≡ Ok tt
        → Stage x (advanced (state 2 P T 0 0 1) d) (stored (state 2 P T 0 0 1) d x) (counts_line P T ++ (d ++ (line_feed ∷ [])))
    unfolding advanced_kind stored_kind
    step_counted j =
        let e : byte_at d 0 ≡ 2 = kind_next (state 2 P T 0 0 1) d x j (λ z. omega arith) (λ z. omega arith) in
        let z : mask_of (bits_of 0 P) ≡ 0 = (mask_none (bits_of 0 P)).1 (bits_none P) in
        capped P T (words_from d 1 P) (bits_of 0 P) a b f g (words_long d 1 P) (words_small d 1 P) (bits_long 0 P) (bits_small 0 P)
        (rw (e, plain_phase (bits_of 0 P) z, plain_count (bits_of 0 P) z)) (rw e)
        (ap (λ (l : List ℕ). counts_line P T ++ (l ++ (line_feed ∷ []))) (caps_of (state 2 P T 0 0 1) d x j refl)
        ∙ sym (append-nil _) ∙ ap (λ (l : List ℕ). counts_line P T ++ caps_line (words_from d 1 P) ++ l) (sym (plain_lines (bits_of 0 P) z)))

    module _ (caps marks : List ℕ) (h : length caps ≡ P) (w : Below 65536 caps) (k : length marks ≡ P) (bits : Bits marks)
        (j : judge_of (capped_state P T marks) d (capped_rooms x caps marks) ≡ Ok tt) where
      -- a 03
      step_tokens : byte_at d 0 ≡ 3
          → Stage x (advanced (capped_state P T marks) d) (stored (capped_state P T marks) d (capped_rooms x caps marks))
          (counts_line P T ++ caps_line caps ++ pockets_lines marks ++ (d ++ (line_feed ∷ [])))
      unfolding advanced_kind stored_kind joined
      step_tokens e =
          let t = tokens_of (capped_state P T marks) d (capped_rooms x caps marks) j e in
          let m : List ℕ = words_from d 1 P in
          let n : length m ≡ P = words_long d 1 P in
          let u : Fine (sets x.caps 0 caps) m = tokens_fine (capped_state P T marks) d (capped_rooms x caps marks) j e in
          let o : 2 + pockets_count marks + 1 ≡ 3 + pockets_count marks + 0 = omega arith in
          rowed (net_of P T [] [] caps marks) 0 m
          (record {
            some_places = a;
            few_places = b;
            some_transitions = f;
            few_transitions = g;
            capped = h;
            capacities = w;
            noted = k;
            bits = bits;
            marked = n;
            fine = record { few = u.few; within = λ p l. rw (get_d_sets caps x.caps p (omega (arith, big.caps)) (omega arith)) at (u.within p l) };
            pres = omega arith;
            posts = omega arith;
            takes = none;
            puts = none;
          })
          f (rw (e, o)) (rw e)
          (ap (λ (l : List ℕ). counts_line P T ++ caps_line caps ++ pockets_lines marks ++ (l ++ (line_feed ∷ []))) t ∙ sym (append-nil _))

      -- a 06, where no place is a pocket yet
      step_pockets : mask_of marks ≡ 0 → byte_at d 0 ≡ 6
          → Stage x (advanced (capped_state P T marks) d) (stored (capped_state P T marks) d (capped_rooms x caps marks))
          (counts_line P T ++ caps_line caps ++ pockets_lines marks ++ (d ++ (line_feed ∷ [])))
      unfolding advanced_kind stored_kind
      step_pockets z e =
          let q = pockets_of (capped_state P T marks) d (capped_rooms x caps marks) j e in
          let l : List ℕ = bits_of (mask_in d) P in
          let same : mask_of l ≡ mask_in d = mask_of_bits (mask_in d) P q.2 in
          let some : mask_of l ≡ 0 → ⊥ = λ o. q.1 (sym same ∙ o) in
          let o : 2 + pockets_count marks + 1 ≡ 2 + pockets_count l = omega (arith, plain_count marks z, pocket_count l some) in
          let kept : sets (sets x.marks 0 marks) 0 l ≡ sets x.marks 0 l
          = sets_again marks l x.marks (omega (arith, bits_long (mask_in d) P)) (omega (arith, bits_long (mask_in d) P, big.marks)) in
          let line : d ++ (line_feed ∷ []) ≡ pockets_line l
          = ap (λ (r : List ℕ). r ++ (line_feed ∷ [])) q.0 ∙ ap (λ (n : ℕ). line_text (6 ∷ eight n)) (sym same) in
          capped P T caps l a b f g h w (bits_long (mask_in d) P) (bits_small (mask_in d) P)
          (rw (e, o, pocket_phase l some)) (rw (e, kept))
          (ap (λ (r : List ℕ). counts_line P T ++ caps_line caps ++ r ++ (d ++ (line_feed ∷ []))) (plain_lines marks z)
          ∙ ap (λ (r : List ℕ). r ++ (d ++ (line_feed ∷ []))) (append-nil (counts_line P T ++ caps_line caps))
          ∙ ap (λ (r : List ℕ). counts_line P T ++ caps_line caps ++ r) (line ∙ sym (pocket_lines l some)))

      step_capped : Stage x (advanced (capped_state P T marks) d) (stored (capped_state P T marks) d (capped_rooms x caps marks))
          (counts_line P T ++ caps_line caps ++ pockets_lines marks ++ (d ++ (line_feed ∷ [])))
      step_capped = go (eqb (mask_of marks) 0) refl
        where
          go : (t : Bool) → eqb (mask_of marks) 0 ≡ t
              → Stage x (advanced (capped_state P T marks) d) (stored (capped_state P T marks) d (capped_rooms x caps marks))
              (counts_line P T ++ caps_line caps ++ pockets_lines marks ++ (d ++ (line_feed ∷ [])))
          go true t =
              let z : mask_of marks ≡ 0 = eqb-true _ _ t in
              ⊎_elim (step_pockets z) step_tokens (kind_pockets (capped_state P T marks) d (capped_rooms x caps marks) j (plain_phase marks z))
          go false t =
              let z : mask_of marks ≡ 0 → ⊥ = eqb-false _ _ t in
              let q : phase_of marks ≡ 3 = pocket_phase marks z in
              step_tokens (kind_next (capped_state P T marks) d (capped_rooms x caps marks) j (λ o. omega arith) (λ o. omega arith) ∙ q)

  module _ (net : Net) (n : ℕ) (initial : List ℕ) (r : Rowed net n initial) (h : n < net.transitions) where
    step_rowed : judge_of (state 4 net.places net.transitions n 0 (3 + pockets_count net.marks + n)) d (filled x net initial []) ≡ Ok tt
        → Stage x (advanced (state 4 net.places net.transitions n 0 (3 + pockets_count net.marks + n)) d) (stored (state 4 net.places net.transitions n 0 (3 + pockets_count net.marks + n)) d (filled x net initial []))
        (head net initial ++ joined (row_line net) n ++ (d ++ (line_feed ∷ [])))
    unfolding joined file_of
    step_rowed j = rw (row_advances s d (filled x net initial []) j refl, row_keeps s d (filled x net initial []) j refl) (go (eqb (n + 1) net.transitions) refl) where
      s : Reading
      s = state 4 net.places net.transitions n 0 (3 + pockets_count net.marks + n)

      a : List ℕ
      a = takes_in (byte_at d 0) d net.places

      b : List ℕ
      b = puts_in (byte_at d 0) d net.places

      a_long : length a ≡ net.places
      a_long = from_long (byte_at d 0) d 2 net.places

      b_long : length b ≡ net.places
      b_long = from_long (byte_at d 0) d (2 + weight_bytes (byte_at d 0) * net.places) net.places

      more : Net
      more = net_of net.places net.transitions (net.pre ++ a) (net.post ++ b) net.caps net.marks

      grown : Rowed more (suc n) initial
      grown = record {
        some_places = r.some_places;
        few_places = r.few_places;
        some_transitions = r.some_transitions;
        few_transitions = r.few_transitions;
        capped = r.capped;
        capacities = r.capacities;
        noted = r.noted;
        bits = r.bits;
        marked = r.marked;
        fine = r.fine;
        pres = omega (arith, length-append net.pre a, a_long, r.pres, suc-mul n net.places);
        posts = omega (arith, length-append net.post b, b_long, r.posts, suc-mul n net.places);
        takes = below_append net.pre a r.takes (row_below s d (filled x net initial []) j refl).0;
        puts = below_append net.post b r.puts (row_below s d (filled x net initial []) j refl).1;
      }

      kept : rooms (sets x.caps 0 net.caps) (sets x.marks 0 net.marks) (sets x.initial 0 initial) (sets (sets x.pre 0 net.pre) (n * net.places) a) (sets (sets x.post 0 net.post) (n * net.places) b) x.word
          ≡ filled x more initial []
      kept =
          let p : n * net.places ≡ 0 + length net.pre = omega (arith, r.pres) in
          let q : n * net.places ≡ 0 + length net.post = omega (arith, r.posts) in
          let u : sets (sets x.pre 0 net.pre) (n * net.places) a ≡ sets x.pre 0 (net.pre ++ a)
          = ap (λ (i : ℕ). sets (sets x.pre 0 net.pre) i a) p ∙ sets_both net.pre a x.pre 0 in
          let v : sets (sets x.post 0 net.post) (n * net.places) b ≡ sets x.post 0 (net.post ++ b)
          = ap (λ (i : ℕ). sets (sets x.post 0 net.post) i b) q ∙ sets_both net.post b x.post 0 in
          rw (u, v)

      same : (k : ℕ) → k < n → row_line net k ≡ row_line more k
      same k l =
          let u = row_before net.places k n net.pre a l r.pres in
          let v = row_before net.places k n net.post b l r.posts in
          rw (u, v)

      last : d ++ (line_feed ∷ []) ≡ row_line more n
      last =
          let u = row_last net.places n net.pre a r.pres (omega (arith, a_long)) in
          let v = row_last net.places n net.post b r.posts (omega (arith, b_long)) in
          rw (u, v) (ap (λ (l : List ℕ). l ++ (line_feed ∷ [])) (row_of s d (filled x net initial []) j refl))

      text : head net initial ++ joined (row_line net) n ++ (d ++ (line_feed ∷ [])) ≡ head net initial ++ joined (row_line more) (suc n)
      text =
          append_assoc (head net initial) (joined (row_line net) n) (d ++ (line_feed ∷ []))
          ∙ ap (λ (l : List ℕ). head net initial ++ (l ++ (d ++ (line_feed ∷ [])))) (joined_same (row_line net) (row_line more) n same)
          ∙ ap (λ (l : List ℕ). head net initial ++ (joined (row_line more) n ++ l)) last

      go : (t : Bool) → eqb (n + 1) net.transitions ≡ t
          → Stage x (state (cond t 5 4) net.places net.transitions (n + 1) 0 (3 + pockets_count net.marks + n + 1))
          (rooms (sets x.caps 0 net.caps) (sets x.marks 0 net.marks) (sets x.initial 0 initial) (sets (sets x.pre 0 net.pre) (n * net.places) a) (sets (sets x.post 0 net.post) (n * net.places) b) x.word)
          (head net initial ++ joined (row_line net) n ++ (d ++ (line_feed ∷ [])))
      go true t =
          let q : n + 1 ≡ net.transitions = eqb-true _ _ t in
          let m : suc n ≡ net.transitions = omega arith in
          let l : 3 + pockets_count net.marks + n + 1 ≡ 3 + pockets_count net.marks + net.transitions + 0 = omega arith in
          let whole : net_in s (filled x more initial []) ≡ more = held_net_lem x big more (suc n) initial [] grown m s refl refl in
          let wired : Wired more = subst Wired (ap (net_in s) kept ∙ whole) (row_wired s d (filled x net initial []) j refl q) in
          lettered more initial [] (record { rowed = rw m at grown; wired = wired; short = omega arith; letters = none }) (rw (q, l)) kept (text ∙ ap (λ (k : ℕ). head net initial ++ joined (row_line more) k) m ∙ sym (append-nil _))
      go false t =
          let q : n + 1 ≡ net.transitions → ⊥ = eqb-false _ _ t in
          let m : n + 1 ≡ suc n = omega arith in
          let l : 3 + pockets_count net.marks + n + 1 ≡ 3 + pockets_count net.marks + suc n = omega arith in
          rowed more (suc n) initial grown (omega arith) (rw (m, l)) kept text

  module _ (net : Net) (initial w : List ℕ) (l : Listed net initial w) where
    step_lettered : judge_of (end_of net w) d (filled x net initial w) ≡ Ok tt
        → Stage x (advanced (end_of net w) d) (stored (end_of net w) d (filled x net initial w)) (file_of net initial w ++ (d ++ (line_feed ∷ [])))
    unfolding advanced_kind stored_kind joined file_of
    step_lettered j =
        let c = letters_of (end_of net w) d (filled x net initial w) j refl in
        let e : byte_at d 0 ≡ 5 = kind_next (end_of net w) d (filled x net initial w) j (λ z. omega arith) (λ z. omega arith) in
        let m : ℕ = letters_in d in
        let v : List ℕ = bytes_from d 1 m in
        let n : length v ≡ m = bytes_long d 1 m in
        let o : length (w ++ v) ≡ length w + m = length-append w v ∙ omega arith in
        let K : ℕ = letters_lines (length w) in
        let i : length w ≡ K * block = omega (arith, c.0) in
        let i' : letters_lines (length (w ++ v)) ≡ suc K = omega (arith, c.0, c.1, c.2, o) in
        let st : state 5 net.places net.transitions net.transitions (length w + m) (3 + pockets_count net.marks + net.transitions + K + 1) ≡ end_of net (w ++ v)
        = let z : 3 + pockets_count net.marks + net.transitions + K + 1 ≡ 3 + pockets_count net.marks + net.transitions + suc K = omega arith in rw (i', o, z) in
        let same : (k : ℕ) → k < K → letters_line w k ≡ letters_line (w ++ v) k = λ k b. let u = row_before block k K w v b i in rw u in
        let last : d ++ (line_feed ∷ []) ≡ letters_line (w ++ v) K
        = let u = row_last block K w v i (omega (arith, c.2, n)) in rw u (ap (λ (l : List ℕ). l ++ (line_feed ∷ [])) c.4) in
        let A : List ℕ = head net initial ++ joined (row_line net) net.transitions in
        let text : A ++ joined (letters_line w) K ++ (d ++ (line_feed ∷ [])) ≡ A ++ joined (letters_line (w ++ v)) (suc K)
        = append_assoc A (joined (letters_line w) K) (d ++ (line_feed ∷ []))
        ∙ ap (λ (l : List ℕ). A ++ (l ++ (d ++ (line_feed ∷ [])))) (joined_same (letters_line w) (letters_line (w ++ v)) K same)
        ∙ ap (λ (l : List ℕ). A ++ (joined (letters_line (w ++ v)) K ++ l)) last in
        let q : length w ≡ 0 + length w = omega arith in
        let kept : sets (sets x.word 0 w) (length w) v ≡ sets x.word 0 (w ++ v) = ap (λ (i : ℕ). sets (sets x.word 0 w) i v) q ∙ sets_both w v x.word 0 in
        lettered net initial (w ++ v) (record { rowed = l.rowed; wired = l.wired; short = omega (arith, o, c.3); letters = below_append w v l.letters c.5 })
        (rw e st) (rw (e, kept)) (text ∙ rw i')

  step : (s : Reading) (y : Rooms) (p : List ℕ) → Stage x s y p → judge_of s d y ≡ Ok tt → Stage x (advanced s d) (stored s d y) (p ++ (d ++ (line_feed ∷ [])))
  step s y p (start es ey ep) j = rw (es, ey, ep) (step_start (rw (es, ey) at j))
  step s y p (counted P T a b f g es ey ep) j = rw (es, ey, ep) (step_counted P T a b f g (rw (es, ey) at j))
  step s y p (capped P T caps marks a b f g h w k bits es ey ep) j = rw (es, ey, ep) (step_capped P T a b f g caps marks h w k bits (rw (es, ey) at j))
  step s y p (rowed net n initial r h es ey ep) j = rw (es, ey, ep) (step_rowed net n initial r h (rw (es, ey) at j))
  step s y p (lettered net initial w l es ey ep) j = rw (es, ey, ep) (step_lettered net initial w l (rw (es, ey) at j))

-- so far has a reading come after lines that are taken
pub staged : (x : Rooms) → Large x → (lines : List ℕ) (s : Reading) (y : Rooms) → TakenLines x lines s y → Stage x s y lines
staged x big lines s y no_line = start refl refl refl
staged x big lines s y (one_more before line t z k f m) = step x big line t z before (staged x big before t z k) ((taken_exactly t line z).1 m)
