-- What a replay's answer means: the demands of document 01, over the published relation. Assumes nothing.
use Rattle.std.specs.Prelude.{Ok, Err}
use Rattle.refusals.specs.Given.{Answer, refused}
use Prim.Native.Nat.{ℕ, ◌+◌, ◌<◌}
use mathlib.Core.Path.{◌≡◌, sym, ap, ◌∙◌}
use mathlib.Core.Bool.{Bool, true, ◌&&◌}
use mathlib.Core.List.{List}
use mathlib.Core.Logic.{◌↔◌}
use native.Mathlib.Omega.{arith}
use lib.ListN.{length, get_or, take, length-take}
use lib.Seq.{take-length}
use lib.Dec.{eqb}
use borrow.Author.Tests.{eqb-true, eq-eqb}
use Rattle.ground.specs.Limits.{replay_limit}
use Rattle.ground.proofs.Tests.{and-true}
use Rattle.net.specs.Net.{Net}
use Rattle.net.specs.Firing.{Fires, Reachable, Within, Names, cause_number, cause_values}
use Rattle.net.specs.Letter.{Small}
use Rattle.net.specs.declared.Cause.{Cause}
use Rattle.net.proofs.Judged.{named_stops}
use Rattle.net.proofs.Meaning.{cause_apart, cause_some, deterministic, within_stays, replay_reaches}
use Rattle.refusals.proofs.Exactly.{Answers, not_refused, same_refusal, Chain, reads_both, reads_all, marked_reads, word_reads, fault_is, exactly_refused, is_answered, is_allowed}
use Rattle.plays.specs.Replay.{play_from}
use Rattle.replay.specs.Entry.{replay_fault, replay_of, numbers, Replayed, Allowed, Refusal, letters_fired, Longest}
use Rattle.plays.specs.declared.Replay.{Replay}
use Rattle.plays.specs.declared.Replay.TheVariants.{Fired, Blocked}
use Rattle.replay.proofs.Answers.{sane_of, sane_is}
use Rattle.replay.proofs.Ending.{Ending, whole, stops, ending, no_more}

-- `numbers` tells any two answers apart
pub numbers_apart : (a b : Answer Replay) → numbers a ≡ numbers b → a ≡ b
numbers_apart (Ok (Fired n)) (Ok (Fired k)) e = let q : n ≡ k = cc in rw q
numbers_apart (Ok (Fired n)) (Ok (Blocked k why)) e = let z : ◌≡◌ {A = ℕ} 0 (cause_number why) = cc in absurd (cause_some why (sym z))
numbers_apart (Ok (Fired n)) (Err r) e = let z : ◌≡◌ {A = ℕ} 0x81 0x82 = cc in absurd (omega arith)
numbers_apart (Ok (Blocked n why)) (Ok (Fired k)) e = let z : cause_number why ≡ 0 = cc in absurd (cause_some why z)
numbers_apart (Ok (Blocked n why)) (Ok (Blocked k who)) e =
    let x : n ≡ k = cc in
    let c : cause_number why ≡ cause_number who = cc in
    let v : cause_values why ≡ cause_values who = cc in
    rw (x, cause_apart why who c v)
numbers_apart (Ok (Blocked n why)) (Err r) e = let z : ◌≡◌ {A = ℕ} 0x81 0x82 = cc in absurd (omega arith)
numbers_apart (Err r) (Ok (Fired k)) e = let z : ◌≡◌ {A = ℕ} 0x82 0x81 = cc in absurd (omega arith)
numbers_apart (Err r) (Ok (Blocked k why)) e = let z : ◌≡◌ {A = ℕ} 0x82 0x81 = cc in absurd (omega arith)
numbers_apart (Err r) (Err s) e = same_refusal r s (cc) (cc)

-- the promise has one answer, and one content of the room
pub unique : (net : Net) (initial w : List ℕ) (within : Bool) (room : List ℕ) (r r' : Answer Replay) (m m' : List ℕ) → Replayed net initial w within room r m → Replayed net initial w within room r' m' → (r ≡ r') × (m ≡ m')
unique net initial w within room r r' m m' a b = (numbers_apart r r' (a.answer ∙ sym b.answer), a.left ∙ sym b.left)

-- the chain of refusals, read demand by demand
read_chain : (net : Net) (initial w : List ℕ) (within : Bool) (room : List ℕ) → Chain (replay_fault net initial w (eqb (length room) net.places && within)) (Refusal net initial w within room)
unfolding replay_fault
read_chain net initial w within room = reads_all (reads_both (marked_reads net initial _ out into) (word_reads net.transitions w))
  where
    out : (eqb (length room) net.places && within) ≡ true → (length room ≡ net.places) × (within ≡ true)
    out e = let f = and-true (eqb (length room) net.places) within e in (eqb-true _ _ f.0, f.1)

    into : (length room ≡ net.places) × (within ≡ true) → (eqb (length room) net.places && within) ≡ true
    into o = rw (eq-eqb (length room) net.places o.0) o.1

module _ (net : Net) (initial w : List ℕ) (within : Bool) (room : List ℕ) where
  -- nothing is refused exactly where all that document 01 asks holds
  allowed_of : replay_fault net initial w (eqb (length room) net.places && within) ≡ Ok tt → Allowed net initial w within room
  allowed_of e =
      let s = sane_of net initial w (eqb (length room) net.places && within) e in
      let f = and-true (eqb (length room) net.places) within s.fitting in
      record { sized = s.sized; light = s.light; marked = s.marked; roomy = eqb-true _ _ f.0; inside = f.1; fine = s.fine; wired = s.wired; short = s.short; letters = s.letters }

  of_allowed : Allowed net initial w within room → replay_fault net initial w (eqb (length room) net.places && within) ≡ Ok tt
  of_allowed a =
      sane_is net initial w (eqb (length room) net.places && within)
      (record { sized = a.sized; light = a.light; marked = a.marked; fitting = rw (eq-eqb _ _ a.roomy) a.inside; fine = a.fine; wired = a.wired; short = a.short; letters = a.letters })

  module _ (r : Answer Replay) (room' : List ℕ) (p : Replayed net initial w within room r room') where
    answer_is : r ≡ (replay_of net initial w within room).answer
    answer_is = numbers_apart r (replay_of net initial w within room).answer p.answer

    -- where nothing is refused, the answer and the room are those of the replay, which ended by the published relation
    ended : Allowed net initial w within room → (r ≡ Ok (play_from net 0 initial w).answer) × Ending net 0 initial w (record { answer = (play_from net 0 initial w).answer; left = room' })
    ended a =
        let f = of_allowed a in
        let y : room' ≡ (play_from net 0 initial w).left = rw f at p.left in
        (rw f at answer_is, rw y (ending net 0 initial w a.marked a.letters))

    -- the answer is the refusal of the first fault, and none where there is no fault
    answers : Answers (replay_fault net initial w (eqb (length room) net.places && within)) r
    answers =
        record {
          given = λ n at f. answer_is ∙ rw f;
          never = λ f n at e. not_refused (play_from net 0 initial w).answer n at (sym (rw f at answer_is) ∙ e);
        }

    -- a refusal has the number and position of the first of 01's demands that does not hold, and is given exactly then
    pub refused_exactly : (n at : ℕ) → (r ≡ refused n at) ↔ Refusal net initial w within room n at
    refused_exactly = exactly_refused answers (read_chain net initial w within room)

    -- "A refusal leaves lent memory as found"
    pub refused_as_found : (n at : ℕ) → r ≡ refused n at → room' ≡ room
    refused_as_found n at e = let f = fault_is answers n at e in rw f at p.left

    -- a refusal is given exactly where something that document 01 asks does not hold
    pub allowed_answered : Allowed net initial w within room → (n at : ℕ) → r ≡ refused n at → ⊥
    allowed_answered = is_answered answers of_allowed

    pub answered_allowed : ((n at : ℕ) → r ≡ refused n at → ⊥) → Allowed net initial w within room
    answered_allowed = is_allowed answers allowed_of

    module _ (allowed : Allowed net initial w within room) where
      -- "fired" exactly when the whole word fires; then the room holds the marking that it fires to
      pub fired_means : (n : ℕ) → r ≡ Ok (Fired n) → (n ≡ length w) × Fires net initial w room'
      fired_means n e = go (ended allowed)
        where
          go : (r ≡ Ok (play_from net 0 initial w).answer) × Ending net 0 initial w (record { answer = (play_from net 0 initial w).answer; left = room' }) → (n ≡ length w) × Fires net initial w room'
          go (s, whole f g) = (let q : n ≡ 0 + length w = cc in omega arith, g)
          go (s, stops k why f h g i) = let z : ◌≡◌ {A = ℕ} 0 1 = cc in absurd (omega arith)

      pub fires_fired : (m' : List ℕ) → Fires net initial w m' → (r ≡ Ok (Fired (length w))) × (room' ≡ m')
      fires_fired m' d = go (ended allowed)
        where
          go : (r ≡ Ok (play_from net 0 initial w).answer) × Ending net 0 initial w (record { answer = (play_from net 0 initial w).answer; left = room' }) → (r ≡ Ok (Fired (length w))) × (room' ≡ m')
          go (s, whole f g) = (let q : 0 + length w ≡ length w = omega arith in s ∙ ap Ok (f ∙ ap Fired q), deterministic g d)
          go (s, stops k why f h g i) = absurd (no_more w k h g (named_stops net room' (get_or w k 0) why i) (length w) h m' (rw take-length d))

      -- the count of letters fired is the length of the longest prefix that fires, and the room holds where it leads
      pub fired_longest : Longest net initial w (letters_fired r) room'
      fired_longest = go (ended allowed)
        where
          go : (r ≡ Ok (play_from net 0 initial w).answer) × Ending net 0 initial w (record { answer = (play_from net 0 initial w).answer; left = room' }) → Longest net initial w (letters_fired r) room'
          go (s, whole f g) =
              let q : 0 + length w ≡ length w = omega arith in
              rw (s, f, q) (record { within = omega arith; fires = rw take-length g; more = λ j a b. absurd (omega arith) })
          go (s, stops k why f h g i) =
              let q : 0 + k ≡ k = omega arith in
              rw (s, f, q) (record { within = omega arith; fires = g; more = λ j a b. no_more w k h g (named_stops net room' (get_or w k 0) why i) j a })

      -- a block's cause is true of the marking left: the lowest short place, or, where none is short, the lowest place over
      pub blocked_cause : (i : ℕ) (why : Cause) → r ≡ Ok (Blocked i why) → (i < length w) × Names net room' (get_or w i 0) why
      blocked_cause i why e = go (ended allowed)
        where
          go : (r ≡ Ok (play_from net 0 initial w).answer) × Ending net 0 initial w (record { answer = (play_from net 0 initial w).answer; left = room' }) → (i < length w) × Names net room' (get_or w i 0) why
          go (s, whole f g) = let z : ◌≡◌ {A = ℕ} 0 1 = cc in absurd (omega arith)
          go (s, stops k u f h g n) =
              let x : i ≡ 0 + k = cc in
              let y : why ≡ u = cc in
              let q : 0 + k ≡ k = omega arith in
              rw (x, y, q) (h, n)

      -- the marking left is reachable, within capacities, and at most what 02 says a replay reaches (E6)
      pub left_reachable : Reachable net initial room'
      left_reachable = record { word = take (letters_fired r) w; fires = fired_longest.fires }

      pub left_within : Within net room'
      left_within = within_stays fired_longest.fires (record { long = allowed.marked; at = λ p h c. allowed.fine.within p (omega (arith, allowed.marked)) })

      pub left_small : Small replay_limit room'
      left_small = replay_reaches allowed.light fired_longest.fires allowed.fine.few (omega (arith, length-take (letters_fired r) w, allowed.short))
