-- A part that is allowed, played; and two parts one after the other are one part. Assumes nothing.
use Rattle.std.specs.Prelude.{Ok}
use Prim.Native.Nat.{ℕ, ◌+◌, ◌≤◌, ◌<◌}
use mathlib.Core.Path.{◌≡◌, refl, sym, ap, ◌∙◌}
use mathlib.Core.Bool.{Bool, true, false}
use mathlib.Core.List.{List, [], ◌∷◌, ◌++◌}
use native.Mathlib.Omega.{arith}
use lib.ListN.{length, get_or, take, drop, length-append, length-take, take-append-drop, get_or-append}
use lib.Seq.{sets, length-sets, get_or-take, take_at, drop_at, get_or-append-add}
use lib.Dec.{eqb}
use borrow.Author.Tests.{eqb-true, eqb-false, not-true, not-false}
use Rattle.ground.specs.Limits.{tokens_after}
use Rattle.ground.proofs.Fill.{map_at_length}
use Rattle.net.specs.Net.{Net, capacity, Capped}
use Rattle.net.specs.Firing.{Fires, Within, Names}
use Rattle.net.specs.Letter.{arcs_at, passes, after, fired_at}
use Rattle.net.specs.declared.Cause.{Cause}
use Rattle.net.specs.declared.Cause.TheVariants.{Short, Over}
use Rattle.net.proofs.Meaning.{cause_some, within_stays, word_small}
use Rattle.refusals.specs.Given.{Letters}
use Rattle.plays.specs.Replay.{Ran, play_from}
use Rattle.plays.specs.declared.Replay.{Replay}
use Rattle.plays.specs.declared.Replay.TheVariants as replay
use Rattle.replay.proofs.Ending.{Ending, whole, stops, ending}
use Rattle.running.specs.State.{held, is_blocked, cause_place, blocked_at, went_on, played_on, held_block, fed_of}
use Rattle.running.specs.Entry.{TokensAt, Allowed}
use Rattle.running.specs.Cutting.{Slotted}
use Rattle.running.specs.declared.Running.{Running}
use Rattle.running.specs.declared.Part.TheVariants.{Fired}
use Rattle.running.proofs.Fronts.{front_long, front_set}
use Rattle.running.proofs.Parts.{held_small, next_passes, next_stops, fed_played, fed_held}
use Rattle.running.proofs.Exactly.{allowed_sound}

-- ---- the replay of a word that is put together of two
pub play_fired : (net : Net) (n : ℕ) (m u w : List ℕ) (k : ℕ) → (play_from net n m u).answer ≡ replay.Fired k → play_from net n m (u ++ w) ≡ play_from net k (play_from net n m u).left w
unfolding play_from
play_fired net n m [] w k e = let q : n ≡ k = cc in ap (λ (i : ℕ). play_from net i m w) q
play_fired net n m (t ∷ u) w k e = go (passes (arcs_at net t) m) refl (play_fired net (n + 1) (fired_at net t m) u w k)
  where
    go : (b : Bool) → passes (arcs_at net t) m ≡ b → ((play_from net (n + 1) (fired_at net t m) u).answer ≡ replay.Fired k → play_from net (n + 1) (fired_at net t m) (u ++ w) ≡ play_from net k (play_from net (n + 1) (fired_at net t m) u).left w) → play_from net n m (t ∷ (u ++ w)) ≡ play_from net k (play_from net n m (t ∷ u)).left w
    go true q ih =
        let f = next_passes net n t m u q in
        next_passes net n t m (u ++ w) q ∙ ih (sym (ap (λ (z : Ran). z.answer) f) ∙ e) ∙ ap (λ (z : Ran). play_from net k z.left w) (sym f)
    go false q ih = let f = sym (ap (λ (z : Ran). z.answer) (next_stops net n t m u q)) ∙ e in let z : ◌≡◌ {A = ℕ} 0 1 = cc in absurd (omega arith)

pub play_blocked : (net : Net) (n : ℕ) (m u w : List ℕ) (k : ℕ) (why : Cause) → (play_from net n m u).answer ≡ replay.Blocked k why → play_from net n m (u ++ w) ≡ play_from net n m u
unfolding play_from
play_blocked net n m [] w k why e = let z : ◌≡◌ {A = ℕ} 0 1 = cc in absurd (omega arith)
play_blocked net n m (t ∷ u) w k why e = go (passes (arcs_at net t) m) refl (play_blocked net (n + 1) (fired_at net t m) u w k why)
  where
    go : (b : Bool) → passes (arcs_at net t) m ≡ b → ((play_from net (n + 1) (fired_at net t m) u).answer ≡ replay.Blocked k why → play_from net (n + 1) (fired_at net t m) (u ++ w) ≡ play_from net (n + 1) (fired_at net t m) u) → play_from net n m (t ∷ (u ++ w)) ≡ play_from net n m (t ∷ u)
    go true q ih =
        let f = next_passes net n t m u q in
        next_passes net n t m (u ++ w) q ∙ ih (sym (ap (λ (z : Ran). z.answer) f) ∙ e) ∙ sym f
    go false q ih = next_stops net n t m (u ++ w) q ∙ sym (next_stops net n t m u q)

pub left_long : (net : Net) (n : ℕ) (m w : List ℕ) → length (play_from net n m w).left ≡ length m
unfolding play_from
left_long net n m [] = refl
left_long net n m (t ∷ w) = go (passes (arcs_at net t) m) refl (left_long net (n + 1) (fired_at net t m) w)
  where
    go : (b : Bool) → passes (arcs_at net t) m ≡ b → length (play_from net (n + 1) (fired_at net t m) w).left ≡ length (fired_at net t m) → length (play_from net n m (t ∷ w)).left ≡ length m
    go true q ih =
        ap (λ (z : Ran). length z.left) (next_passes net n t m w q) ∙ ih ∙ map_at_length (after (arcs_at net t).takes (arcs_at net t).puts) m
    go false q ih = ap (λ (z : Ran). length z.left) (next_stops net n t m w q)

-- ---- the front of a marking
module _ (n : ℕ) (l v : List ℕ) (h : n ≤ length l) (e : length v ≡ n) where
  front_is : v ++ drop n l ≡ sets l 0 v
  front_is = front_set n l h v v (e ∙ sym (front_long n l h)) refl

  pub front_here : take n (sets l 0 v) ≡ v
  front_here = rw (← front_is) (take_at v (drop n l) n e)

  pub front_behind : drop n (sets l 0 v) ≡ drop n l
  front_behind = rw (← front_is) (drop_at v (drop n l) n e)

front_again : (n : ℕ) (l v x : List ℕ) → n ≤ length l → length v ≡ n → length x ≡ n → sets (sets l 0 v) 0 x ≡ sets l 0 x
front_again n l v x h e q =
    sym (front_is n (sets l 0 v) x (rw (length-sets l 0 v) h) q) ∙ ap (λ (d : List ℕ). x ++ d) (front_behind n l v h e) ∙ front_is n l x h q

pub front_own : (n : ℕ) (l : List ℕ) → n ≤ length l → sets l 0 (take n l) ≡ l
front_own n l h = sym (front_is n l (take n l) h (front_long n l h)) ∙ take-append-drop n l

-- ---- a part of a word that is allowed is allowed
module _ (net : Net) (s : Running) (u w : List ℕ) (a : Allowed net s (u ++ w)) where
  pub allowed_front : Allowed net s u
  allowed_front =
      record {
        sized = a.sized;
        light = a.light;
        tokens = a.tokens;
        wired = a.wired;
        short = omega (arith, a.short, length-append u w);
        letters = record { at = λ k h. rw (get_or-append u w 0 k h) at (a.letters.at k (omega (arith, length-append u w))) };
        placed = a.placed;
      }

  rest_letters : Letters net.transitions w
  rest_letters = record { at = λ k h. rw (get_or-append-add u w k 0) at (a.letters.at (length u + k) (omega (arith, length-append u w))) }

  allowed_back : Allowed net s w
  allowed_back =
      record {
        sized = a.sized;
        light = a.light;
        tokens = a.tokens;
        wired = a.wired;
        short = omega (arith, a.short, length-append u w);
        letters = rest_letters;
        placed = a.placed;
      }

-- ---- one part, on a state that is allowed it
abbrev pub advanced : Running → List ℕ → ℕ → Running
advanced s m k = record { marking = m; fired = k; position = s.position; place = s.place; blocked = s.blocked }

-- the marking after a part that is played
abbrev pub next : Net → Running → List ℕ → List ℕ
next net s w = sets s.marking 0 (play_from net s.fired (held net s) w).left

free : (blocked : ℕ) → is_blocked blocked ≡ false → blocked ≡ 0
free blocked e = eqb-true blocked 0 (not-false (eqb blocked 0) e)

pub stuck : (blocked : ℕ) → is_blocked blocked ≡ true → blocked ≡ 0 → ⊥
stuck blocked e = eqb-false blocked 0 (not-true (eqb blocked 0) e)

module _ (net : Net) (s : Running) (w : List ℕ) (a : Allowed net s w) where
  pub fed_stuck : (s.blocked ≡ 0 → ⊥) → fed_of net s w ≡ held_block s
  fed_stuck n = sym (fed_held net s w (Ok tt) (sym (allowed_sound net s w a)) (held_block s) refl n refl)

  pub fed_free : s.blocked ≡ 0 → fed_of net s w ≡ played_on net s w
  fed_free q = sym (fed_played net s w (Ok tt) (sym (allowed_sound net s w a)) (played_on net s w) refl q refl)

  module _ (q : s.blocked ≡ 0) where
    pub fed_fires : (k : ℕ) → (play_from net s.fired (held net s) w).answer ≡ replay.Fired k → fed_of net s w ≡ record { state = advanced s (next net s w) k; answer = Ok (Fired k) }
    fed_fires k e = fed_free q ∙ ap (went_on s (next net s w)) e

    pub fed_stops : (k : ℕ) (why : Cause) → (play_from net s.fired (held net s) w).answer ≡ replay.Blocked k why → fed_of net s w ≡ blocked_at (next net s w) k why
    fed_stops k why e = fed_free q ∙ ap (went_on s (next net s w)) e

  module _ (slots : Slotted s) where
    pub room : net.places ≤ length s.marking
    room = omega (arith, slots, a.sized.few_places)

    pub held_long : length (held net s) ≡ net.places
    held_long = front_long net.places s.marking room

    pub left_places : length (play_from net s.fired (held net s) w).left ≡ net.places
    left_places = left_long net s.fired (held net s) w ∙ held_long

    -- the marking that the net sees after it
    pub next_held : take net.places (next net s w) ≡ (play_from net s.fired (held net s) w).left
    next_held = front_here net.places s.marking _ room left_places

    pub held_within : Within net (held net s)
    held_within = record { long = held_long; at = λ p h c. rw (get_or-take net.places s.marking p 0 h) ((a.tokens p h).within c) }

    pub part_ending : Ending net s.fired (held net s) w (play_from net s.fired (held net s) w)
    part_ending = ending net s.fired (held net s) w held_long a.letters

    -- wherever a prefix of it leads, so many letters later
    pub prefix_tokens : (v m : List ℕ) (k : ℕ) → Fires net (held net s) v m → k ≡ s.fired + length v → (p : ℕ) → p < net.places → (get_or m p 0 ≤ tokens_after k) × (Capped net p → get_or m p 0 ≤ capacity net p)
    prefix_tokens v m k f e p h =
        let r = word_small (tokens_after s.fired) a.light f (held_small net s w a) in
        (omega (arith, r.at p), (within_stays f held_within).at p h)

    -- so with the tokens of the next marking
    next_tokens : (v : List ℕ) (s' : Running) → Fires net (held net s) v (play_from net s.fired (held net s) w).left → s'.fired ≡ s.fired + length v → s'.marking ≡ next net s w → (p : ℕ) → p < net.places → TokensAt net s' p
    next_tokens v s' f e q p h =
        let t = prefix_tokens v _ s'.fired f e p h in
        let z : get_or s'.marking p 0 ≡ get_or (play_from net s.fired (held net s) w).left p 0 = ap (λ (l : List ℕ). get_or l p 0) q ∙ sym (get_or-take net.places (next net s w) p 0 h) ∙ ap (λ (l : List ℕ). get_or l p 0) next_held in
        record { few = rw z t.0; within = rw z t.1 }

-- a block's place is a place of the net
named_place : (net : Net) (m : List ℕ) (t : ℕ) (why : Cause) → Names net m t why → cause_place why < net.places
named_place net m t (Short p) n = n.here
named_place net m t (Over p) n = n.here

-- ---- two parts
module _ (net : Net) (s : Running) (u w : List ℕ) (a : Allowed net s (u ++ w)) (slots : Slotted s) where
  front : Allowed net s u
  front = allowed_front net s u w a

  -- what is left is allowed to the state after a front of it: nothing is refused on the way
  pub rest_allowed : Allowed net (fed_of net s u).state w
  rest_allowed = go (is_blocked s.blocked) refl
    where
      moved : s.blocked ≡ 0 → Ending net s.fired (held net s) u (play_from net s.fired (held net s) u) → Allowed net (fed_of net s u).state w
      moved q (whole e f) =
          rw (fed_fires net s u front q (s.fired + length u) e)
          (record {
            sized = a.sized;
            light = a.light;
            tokens = next_tokens net s u front slots u (advanced s (next net s u) (s.fired + length u)) f refl refl;
            wired = a.wired;
            short = omega (arith, a.short, length-append u w);
            letters = rest_letters net s u w a;
            placed = a.placed;
          })
      moved q (stops k why e h f n) =
          let z : s.fired + k ≡ s.fired + length (take k u) = omega (arith, length-take k u) in
          rw (fed_stops net s u front q (s.fired + k) why e)
          (record {
            sized = a.sized;
            light = a.light;
            tokens = next_tokens net s u front slots (take k u) (blocked_at (next net s u) (s.fired + k) why).state f z refl;
            wired = a.wired;
            short = omega (arith, a.short, length-append u w);
            letters = rest_letters net s u w a;
            placed = λ b. named_place net _ (get_or u k 0) why n;
          })

      go : (b : Bool) → is_blocked s.blocked ≡ b → Allowed net (fed_of net s u).state w
      go true q = rw (fed_stuck net s u front (stuck s.blocked q)) (allowed_back net s u w a)
      go false q = moved (free s.blocked q) (part_ending net s u front slots)

  -- it goes on from there as the whole does
  pub two_parts : fed_of net (fed_of net s u).state w ≡ fed_of net s (u ++ w)
  two_parts = go (is_blocked s.blocked) refl rest_allowed
    where
      same_went : (r : Replay) (m m' : List ℕ) (k : ℕ) → m ≡ m' → went_on (advanced s (next net s u) k) m r ≡ went_on s m' r
      same_went (replay.Fired n) m m' k e = rw e
      same_went (replay.Blocked n why) m m' k e = rw e

      moved : s.blocked ≡ 0 → Ending net s.fired (held net s) u (play_from net s.fired (held net s) u) → Allowed net (fed_of net s u).state w → fed_of net (fed_of net s u).state w ≡ fed_of net s (u ++ w)
      moved q (whole e f) b =
          let k : ℕ = s.fired + length u in
          let g = fed_fires net s u front q k e in
          let s₁ : Running = advanced s (next net s u) k in
          let b₁ : Allowed net s₁ w = rw g at b in
          let y : play_from net k (held net s₁) w ≡ play_from net s.fired (held net s) (u ++ w) = ap (λ (m : List ℕ). play_from net k m w) (next_held net s u front slots) ∙ sym (play_fired net s.fired (held net s) u w k e) in
          let l = left_places net s u front slots in
          let l₁ : length (play_from net s.fired (held net s) (u ++ w)).left ≡ net.places = left_places net s (u ++ w) a slots in
          rw g (fed_free net s₁ w b₁ q
          ∙ same_went (play_from net k (held net s₁) w).answer (next net s₁ w) (next net s (u ++ w)) k
          (ap (λ (z : Ran). sets (next net s u) 0 z.left) y ∙ front_again net.places s.marking (play_from net s.fired (held net s) u).left (play_from net s.fired (held net s) (u ++ w)).left (room net s u front slots) l l₁)
          ∙ ap (λ (z : Ran). went_on s (next net s (u ++ w)) z.answer) y
          ∙ sym (fed_free net s (u ++ w) a q))
      moved q (stops k why e h f n) b =
          let g = fed_stops net s u front q (s.fired + k) why e in
          let s₁ : Running = (blocked_at (next net s u) (s.fired + k) why).state in
          let b₁ : Allowed net s₁ w = rw g at b in
          let y = play_blocked net s.fired (held net s) u w (s.fired + k) why e in
          rw g (fed_stuck net s₁ w b₁ (cause_some why)
          ∙ sym (fed_stops net s (u ++ w) a q (s.fired + k) why (ap (λ (z : Ran). z.answer) y ∙ e) ∙ ap (λ (z : Ran). blocked_at (sets s.marking 0 z.left) (s.fired + k) why) y))

      go : (b : Bool) → is_blocked s.blocked ≡ b → Allowed net (fed_of net s u).state w → fed_of net (fed_of net s u).state w ≡ fed_of net s (u ++ w)
      go true q b =
          let n = stuck s.blocked q in
          rw (fed_stuck net s u front n) (fed_stuck net s w (allowed_back net s u w a) n ∙ sym (fed_stuck net s (u ++ w) a n))
      go false q b = moved (free s.blocked q) (part_ending net s u front slots) b
