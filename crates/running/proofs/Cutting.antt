-- A log in parts, cut in any way, is the log in one part, and agrees with the replay of the whole. Assumes nothing.
use Rattle.std.specs.Prelude.{Ok, Err}
use Rattle.refusals.specs.Given.{Answer, Fault, refused}
use Prim.Native.Nat.{ℕ, ◌≤◌}
use mathlib.Core.Path.{◌≡◌, refl, sym, ap, subst, ◌∙◌}
use mathlib.Core.Bool.{Bool, true, false, cond, ◌&&◌}
use mathlib.Core.List.{List, [], ◌∷◌, ◌++◌, append-nil, append_assoc}
use native.Mathlib.Omega.{arith}
use lib.ListN.{length, get_or, drop}
use lib.Seq.{sets, length-sets, get_or-take}
use lib.Dec.{eqb}
use borrow.Author.Tests.{eq-eqb, ne_eqb}
use Rattle.ground.specs.Limits.{count_limit, word_limit}
use Rattle.ground.proofs.Fill.{table_length}
use Rattle.net.specs.Net.{Net}
use Rattle.net.specs.Firing.{cause_number}
use Rattle.net.specs.declared.Cause.{Cause}
use Rattle.net.specs.declared.Cause.TheVariants.{Short, Over}
use Rattle.net.proofs.Meaning.{cause_some}
use Rattle.refusals.specs.Given.{Letters}
use Rattle.refusals.proofs.Exactly as law
use Rattle.plays.specs.Replay.{play_from}
use Rattle.plays.specs.declared.Replay.{Replay}
use Rattle.plays.specs.declared.Replay.TheVariants as replay
use Rattle.replay.specs.Entry.{replay_fault, Replayed}
use Rattle.replay.specs.Entry as entry
use Rattle.replay.proofs.Answers.{sane_is}
use Rattle.replay.proofs.Meaning as replayed
use Rattle.running.specs.State.{held, is_blocked, part_fault, blocked_at, went_on, played_on, held_block, fed_by, fed_of}
use Rattle.running.specs.Entry.{fresh_at, empty, start_of, StartAllowed, numbers, Allowed}
use Rattle.running.specs.Cutting as cut
use Rattle.running.specs.Cutting.{Slotted, fed_all, Calls, no_call, then_call, Agrees}
use Rattle.running.specs.declared.Running.{Running}
use Rattle.running.specs.declared.Part.{Part}
use Rattle.running.specs.declared.Part.TheVariants.{Fired, Blocked}
use Rattle.running.specs.declared.Fed.{Fed}
use Rattle.running.proofs.Parts.{sound_allowed}
use Rattle.running.proofs.Exactly.{allowed_answered, start_sound, answered_allowed}
use Rattle.running.proofs.TwoParts.{front_here, front_behind, front_own, allowed_front, advanced, next, stuck, fed_stuck, fed_fires, fed_stops, room, left_places, next_held, rest_allowed, two_parts}

-- ---- what a part does not change
-- the state after a part, by cases: as found, or played on
after_part : (net : Net) (s : Running) (w : List ℕ) (Q : Running → Type 0) → Q s → (Allowed net s w → (k : ℕ) → Q (advanced s (next net s w) k)) → (Allowed net s w → (k : ℕ) (why : Cause) → Q (blocked_at (next net s w) k why).state) → Q (fed_of net s w).state
unfolding fed_of
after_part net s w Q same fires blocks = faulty (part_fault net s w) refl
  where
    went : Allowed net s w → (r : Replay) → Q (went_on s (next net s w) r).state
    went a (replay.Fired n) = fires a n
    went a (replay.Blocked n why) = blocks a n why

    held_or : Allowed net s w → (b : Bool) → Q (cond b (held_block s) (played_on net s w)).state
    held_or a true = same
    held_or a false = went a (play_from net s.fired (held net s) w).answer

    faulty : (f : Fault) → part_fault net s w ≡ f → Q (fed_by f net s w).state
    faulty (Ok _) e = held_or (sound_allowed net s w e) (is_blocked s.blocked)
    faulty (Err r) e = same

-- "slots past P .. stay", whatever the part and the net
pub tail_stays : (net : Net) (s : Running) (w : List ℕ) → Slotted s → drop net.places (fed_of net s w).state.marking ≡ drop net.places s.marking
tail_stays net s w slots =
    after_part net s w (λ (z : Running). drop net.places z.marking ≡ drop net.places s.marking) refl (λ a k. behind a) (λ a k why. behind a)
  where
    behind : Allowed net s w → drop net.places (next net s w) ≡ drop net.places s.marking
    behind a = front_behind net.places s.marking (play_from net s.fired (held net s) w).left (room net s w a slots) (left_places net s w a slots)

pub slots_stay : (net : Net) (s : Running) (w : List ℕ) → Slotted s → Slotted (fed_of net s w).state
slots_stay net s w slots = after_part net s w Slotted slots (λ a k. long) (λ a k why. long)
  where
    long : length (next net s w) ≡ count_limit
    long = length-sets s.marking 0 (play_from net s.fired (held net s) w).left ∙ slots

pub tails_stay : (net : Net) (f : Fed) (parts : List (List ℕ)) → Slotted f.state → drop net.places (fed_all net f parts).state.marking ≡ drop net.places f.state.marking
unfolding fed_all
tails_stay net f [] slots = refl
tails_stay net f (v ∷ vs) slots =
    tails_stay net (fed_of net f.state v) vs (slots_stay net f.state v slots) ∙ tail_stays net f.state v slots

-- ---- after a block
-- an answer that tells a block comes with the state that holds it
Told : Fed → Type 0
Told g = (g ≡ held_block g.state) × (is_blocked g.state.blocked ≡ true)

block_told : (net : Net) (s : Running) (w : List ℕ) (c n p : ℕ) → (fed_of net s w).answer ≡ Ok (Blocked c n p) → Told (fed_of net s w)
unfolding fed_of Told
block_told net s w c n p = faulty (part_fault net s w)
  where
    went : (r : Replay) → (went_on s (next net s w) r).answer ≡ Ok (Blocked c n p) → Told (went_on s (next net s w) r)
    went (replay.Fired k) e = let z : ◌≡◌ {A = ℕ} 0 1 = cc in absurd (omega arith)
    went (replay.Blocked k why) e = (refl, rw (ne_eqb (cause_number why) 0 (cause_some why)))

    held_or : (b : Bool) → is_blocked s.blocked ≡ b → (cond b (held_block s) (played_on net s w)).answer ≡ Ok (Blocked c n p) → Told (cond b (held_block s) (played_on net s w))
    held_or true q e = (refl, q)
    held_or false q e = went (play_from net s.fired (held net s) w).answer e

    faulty : (f : Fault) → (fed_by f net s w).answer ≡ Ok (Blocked c n p) → Told (fed_by f net s w)
    faulty (Ok _) e = held_or (is_blocked s.blocked) refl e
    faulty (Err r) e = law.not_refused (Blocked c n p) r.number r.at (sym e)

-- "After a block each later part gets the same block and changes nothing", unless it is refused
pub block_stays : (net : Net) (s : Running) (w : List ℕ) (c n p : ℕ) → (fed_of net s w).answer ≡ Ok (Blocked c n p) → (v : List ℕ) → ((k at : ℕ) → (fed_of net (fed_of net s w).state v).answer ≡ refused k at → ⊥) → fed_of net (fed_of net s w).state v ≡ fed_of net s w
unfolding Told
block_stays net s w c n p e v none =
    let t = block_told net s w c n p e in
    let s' : Running = (fed_of net s w).state in
    let a = answered_allowed net s' v (fed_of net s' v).state (fed_of net s' v).answer (refl, refl) none in
    fed_stuck net s' v a (stuck s'.blocked t.1) ∙ sym t.0

-- a state that holds a block stays so through all later parts, refused or not
pub block_keeps : (net : Net) (s : Running) (v : List ℕ) → is_blocked s.blocked ≡ true → (fed_of net s v).state ≡ s
unfolding fed_of
block_keeps net s v q = go (part_fault net s v)
  where
    go : (f : Fault) → (fed_by f net s v).state ≡ s
    go (Ok _) = rw q
    go (Err r) = refl

pub block_holds : (net : Net) (f : Fed) (parts : List (List ℕ)) → is_blocked f.state.blocked ≡ true → (fed_all net f parts).state ≡ f.state
unfolding fed_all
block_holds net f [] q = refl
block_holds net f (v ∷ vs) q =
    let e = block_keeps net f.state v q in
    block_holds net (fed_of net f.state v) vs (ap (λ (z : Running). is_blocked z.blocked) e ∙ q) ∙ e

-- ---- all parts
whole_both : (us vs : List (List ℕ)) → cut.whole (us ++ vs) ≡ cut.whole us ++ cut.whole vs
unfolding cut.whole
whole_both [] vs = refl
whole_both (u ∷ us) vs = ap (λ (l : List ℕ). u ++ l) (whole_both us vs) ∙ sym (append_assoc u (cut.whole us) (cut.whole vs))

module _ (net : Net) where
  -- from any state: a log in parts is the log in one part
  pub all_parts : (s : Running) (u : List ℕ) (parts : List (List ℕ)) → Allowed net s (u ++ cut.whole parts) → Slotted s → fed_all net (fed_of net s u) parts ≡ fed_of net s (u ++ cut.whole parts)
  unfolding cut.whole fed_all
  all_parts s u [] a slots = ap (fed_of net s) (sym (append-nil u))
  all_parts s u (v ∷ vs) a slots =
      all_parts (fed_of net s u).state v vs (rest_allowed net s u (v ++ cut.whole vs) a slots) (slots_stay net s u slots)
      ∙ two_parts net s u (v ++ cut.whole vs) a slots

-- ---- the start
abbrev fresh : List ℕ → Running
fresh initial = fresh_at (sets empty 0 initial)

module _ (net : Net) (initial : List ℕ) (a : StartAllowed net initial) where
  pub fresh_slotted : Slotted (fresh initial)
  fresh_slotted = length-sets empty 0 initial ∙ table_length (λ k. 0) count_limit

  pub fresh_held : held net (fresh initial) ≡ initial
  fresh_held = front_here net.places empty initial (omega (arith, table_length {A = ℕ} (λ k. 0) count_limit, a.sized.few_places)) a.marked

  pub start_is : start_of net initial ≡ record { state = (fresh initial); answer = Ok (Fired 0) }
  unfolding start_of
  start_is = rw (start_sound net initial a)

  -- nothing is refused that has valid letters, and no more than may be
  module _ (w : List ℕ) (short : length w ≤ word_limit) (letters : Letters net.transitions w) where
    pub fresh_allowed : Allowed net (fresh initial) w
    fresh_allowed =
        record {
          sized = a.sized;
          light = a.light;
          tokens = λ p h.
              let z : get_or (fresh initial).marking p 0 ≡ get_or initial p 0 = sym (get_or-take net.places (fresh initial).marking p 0 h) ∙ ap (λ (l : List ℕ). get_or l p 0) fresh_held in
              record { few = rw z (omega (arith, a.fine.few.at p)); within = λ c. rw z (a.fine.within p (omega (arith, a.marked))) };
          wired = a.wired;
          short = omega arith;
          letters = letters;
          placed = λ (b : false ≡ true). let z : ◌≡◌ {A = ℕ} 0 1 = cc in absurd (omega arith);
        }

    -- a log in one part, from the start
    pub fresh_once : fed_of net (fresh initial) [] ≡ start_of net initial
    unfolding play_from
    fresh_once =
        let b : Allowed net (fresh initial) [] = allowed_front net (fresh initial) [] w fresh_allowed in
        fed_fires net (fresh initial) [] b refl 0 refl
        ∙ ap (λ (l : List ℕ). record { state = advanced (fresh initial) l 0; answer = Ok (Fired 0) }) (front_own net.places (fresh initial).marking (room net (fresh initial) [] b fresh_slotted))
        ∙ sym start_is

-- ---- a part that is played agrees with the replay from the state's marking
module _ (net : Net) (s : Running) (w : List ℕ) (a : Allowed net s w) (slots : Slotted s) (q : s.blocked ≡ 0) where
  pub part_agrees : Agrees net (fed_of net s w) (Ok (play_from net s.fired (held net s) w).answer) (play_from net s.fired (held net s) w).left
  part_agrees = go (play_from net s.fired (held net s) w).answer refl
    where
      go : (r : Replay) → (play_from net s.fired (held net s) w).answer ≡ r → Agrees net (fed_of net s w) (Ok r) (play_from net s.fired (held net s) w).left
      go (replay.Fired n) e = rw (fed_fires net s w a q n e) (record { answer = refl; marking = next_held net s w a slots; fired = refl; block = q })
      go (replay.Blocked n why) e =
          rw (fed_stops net s w a q n why e) (record { answer = told why; marking = next_held net s w a slots; fired = refl; block = (refl, refl, refl) })
        where
          told : (why : Cause) → numbers (blocked_at (next net s w) n why).answer ≡ entry.numbers (Ok (replay.Blocked n why))
          told (Short p) = refl
          told (Over p) = refl

-- ---- calls, one for each part, come to the same
pub calls_fed : (net : Net) {s s' : Running} {r r' : Answer Part} {parts : List (List ℕ)} → Calls net s r parts s' r' → record { state = s'; answer = r' } ≡ fed_all net (record { state = s; answer = r }) parts
unfolding fed_all
calls_fed net no_call = refl
calls_fed net {s} {s'} {r} {r'} (then_call {s₁ = s₁} {r₁ = r₁} {u = u} {us = us} p c) =
    let e : record { state = s₁; answer = r₁ } ≡ fed_of net s u = rw (p.0, p.1) in
    calls_fed net c ∙ ap (λ (f : Fed). fed_all net f us) e

-- ---- any cutting
module _ (net : Net) (initial : List ℕ) (a : StartAllowed net initial) (parts : List (List ℕ)) (short : length (cut.whole parts) ≤ word_limit)
    (letters : Letters net.transitions (cut.whole parts)) where
  -- it is the log in one part
  pub one_part : fed_all net (start_of net initial) parts ≡ fed_of net (start_of net initial).state (cut.whole parts)
  one_part =
      let b = fresh_allowed net initial a (cut.whole parts) short letters in
      rw (start_is net initial a) (rw (fresh_once net initial a (cut.whole parts) short letters ∙ start_is net initial a) at (all_parts net (fresh initial) [] parts b (fresh_slotted net initial a)))

  -- none of it is refused
  pub not_refused : (n at : ℕ) → (fed_all net (start_of net initial) parts).answer ≡ refused n at → ⊥
  not_refused n at e =
      let s : Running = fresh initial in
      let b = fresh_allowed net initial a (cut.whole parts) short letters in
      allowed_answered net s (cut.whole parts) (fed_of net s (cut.whole parts)).state (fed_of net s (cut.whole parts)).answer (refl, refl) b n at
      (rw (one_part, start_is net initial a) at e)

  -- the last state and answer agree with the replay of the whole
  pub cutting_plays : Agrees net (fed_all net (start_of net initial) parts) (Ok (play_from net 0 initial (cut.whole parts)).answer) (play_from net 0 initial (cut.whole parts)).left
  cutting_plays =
      let s : Running = fresh initial in
      let b = fresh_allowed net initial a (cut.whole parts) short letters in
      subst (λ (m : List ℕ). Agrees net (fed_all net (start_of net initial) parts) (Ok (play_from net 0 m (cut.whole parts)).answer) (play_from net 0 m (cut.whole parts)).left) (fresh_held net initial a)
      (rw (one_part, start_is net initial a) (part_agrees net s (cut.whole parts) b (fresh_slotted net initial a) refl))

  -- "the last state agrees with replaying the whole": r and m are what `replay_word` answers and leaves
  pub any_cutting : (room : List ℕ) (r : Answer Replay) (m : List ℕ) → length room ≡ net.places → Replayed net initial (cut.whole parts) true room r m → Agrees net (fed_all net (start_of net initial) parts) r m
  any_cutting room r m l p =
      let f : replay_fault net initial (cut.whole parts) (eqb (length room) net.places && true) ≡ Ok tt = sane_is net initial (cut.whole parts) (eqb (length room) net.places && true)
      (record { sized = a.sized; light = a.light; marked = a.marked; fitting = rw (eq-eqb (length room) net.places l); fine = a.fine; wired = a.wired; short = short; letters = letters }) in
      let x : r ≡ Ok (play_from net 0 initial (cut.whole parts)).answer = replayed.numbers_apart r _ (rw f at p.answer) in
      let y : m ≡ (play_from net 0 initial (cut.whole parts)).left = rw f at p.left in
      rw (x, y) cutting_plays

  -- so with calls that keep their promise, begun with what `start_replay` gave
  pub calls_agree : (f : Fed) → f ≡ start_of net initial → (s : Running) (x : Answer Part) → Calls net f.state f.answer parts s x → (room : List ℕ) (r : Answer Replay) (m : List ℕ) → length room ≡ net.places → Replayed net initial (cut.whole parts) true room r m → Agrees net (record { state = s; answer = x }) r m
  calls_agree f e s x c room r m l p =
      subst (λ (g : Fed). Agrees net g r m) (sym (calls_fed net c ∙ ap (λ (g : Fed). fed_all net g parts) e)) (any_cutting room r m l p)

-- after the first parts, whatever they are, the others are allowed, so that nothing is refused on the way
module _ (net : Net) (initial : List ℕ) (a : StartAllowed net initial) (us vs : List (List ℕ)) (short : length (cut.whole (us ++ vs)) ≤ word_limit)
    (letters : Letters net.transitions (cut.whole (us ++ vs))) where
  both_allowed : Allowed net (fresh initial) (cut.whole us ++ cut.whole vs)
  both_allowed = rw (← whole_both us vs) (fresh_allowed net initial a (cut.whole (us ++ vs)) short letters)

  pub on_the_way : Allowed net (fed_all net (start_of net initial) us).state (cut.whole vs)
  on_the_way =
      let s : Running = fresh initial in
      let b = allowed_front net s (cut.whole us) (cut.whole vs) both_allowed in
      rw (one_part net initial a us (omega (arith, b.short)) b.letters, start_is net initial a)
      (rest_allowed net s (cut.whole us) (cut.whole vs) both_allowed (fresh_slotted net initial a))
