-- The refusals of a part and of the start, exactly: each is given when its demand is the first that does not hold, and changes nothing. Assumes nothing.
use Rattle.std.specs.Prelude.{Ok, Err}
use Rattle.refusals.specs.Given.{Answer, Fault, refused, or_else}
use Prim.Native.Nat.{ℕ, ◌+◌, ◌≤◌, ◌<◌}
use mathlib.Core.Path.{◌≡◌, refl, sym, ap, ◌∙◌}
use mathlib.Core.Bool.{Bool, true, false, ◌&&◌, cond}
use mathlib.Core.List.{List}
use mathlib.Core.Logic.{◌↔◌}
use native.Mathlib.Omega.{arith}
use native.Mathlib.Decide.{dec_lt}
use lib.ListN.{length, get_or}
use lib.Seq.{sets}
use lib.Dec.{ltb, leb}
use borrow.Author.Tests.{lt-ltb, le-ltb, ltb-false, lt-leb, leb-false}
use Rattle.ground.specs.Limits.{no_capacity, word_limit, tokens_after}
use Rattle.ground.proofs.Tests.{both_false}
use Rattle.ground.proofs.Scan.{first_none}
use Rattle.net.specs.Net.{Net}
use Rattle.refusals.specs.Given.{marked_fault, bad_letter, Letters}
use Rattle.refusals.specs.First.{First, Given, GivenAt, LooseFirst, CountsFirst}
use Rattle.refusals.proofs.Chains.{sound_or, sound_refuse}
use Rattle.refusals.proofs.Refusals.{marked_met, met_marked, met_counts, met_loose}
use Rattle.refusals.proofs.Exactly.{Answers, answers_of, answers_ok, not_refused, same_refusal, Chain, Reads, reads_test, reads_both, reads_all, tells_as, tells_test, tells_scan, counts_reads, loose_reads, marked_reads, fault_is, exactly_refused, is_answered, is_allowed}
use Rattle.plays.specs.Replay.{play_from}
use Rattle.plays.specs.declared.Replay.{Replay}
use Rattle.plays.specs.declared.Replay.TheVariants as replay
use Rattle.running.specs.State.{held, is_blocked, tokens_over, bad_tokens, tokens_fault, state_fault, letters_fault, block_fault, part_fault, went_on, played_on, held_block, fed_by, fed_of}
use Rattle.running.specs.Entry.{started_by, start_of, StartAllowed, StartRefusal, numbers, Promised, TokensAt, Allowed, Refusal}
use Rattle.running.specs.declared.Running.{Running}
use Rattle.running.specs.declared.Part.{Part}
use Rattle.running.specs.declared.Part.TheVariants.{Fired, Blocked}
use Rattle.running.specs.declared.Fed.{Fed}
use Rattle.running.proofs.Parts.{tokens_at_lem, sound_allowed}

-- `numbers` tells any two answers apart
pub numbers_apart : (a b : Answer Part) → numbers a ≡ numbers b → a ≡ b
numbers_apart (Ok (Fired n)) (Ok (Fired k)) e = ap (λ (i : ℕ). Ok (Fired i)) (cc)
numbers_apart (Ok (Fired n)) (Ok (Blocked d k p)) e = let z : ◌≡◌ {A = ℕ} 0 1 = cc in absurd (omega arith)
numbers_apart (Ok (Fired n)) (Err k) e = let z : ◌≡◌ {A = ℕ} 0x81 0x82 = cc in absurd (omega arith)
numbers_apart (Ok (Blocked c n q)) (Ok (Fired k)) e = let z : ◌≡◌ {A = ℕ} 0 1 = cc in absurd (omega arith)
numbers_apart (Ok (Blocked c n q)) (Ok (Blocked d k p)) e = let x : c ≡ d = cc in let y : n ≡ k = cc in let z : q ≡ p = cc in rw (x, y, z)
numbers_apart (Ok (Blocked c n q)) (Err k) e = let z : ◌≡◌ {A = ℕ} 0x81 0x82 = cc in absurd (omega arith)
numbers_apart (Err r) (Ok (Fired k)) e = let z : ◌≡◌ {A = ℕ} 0x82 0x81 = cc in absurd (omega arith)
numbers_apart (Err r) (Ok (Blocked d k q)) e = let z : ◌≡◌ {A = ℕ} 0x82 0x81 = cc in absurd (omega arith)
numbers_apart (Err r) (Err k) e = same_refusal r k (cc) (cc)

-- ---- a part's promise has one state and one answer; by value too
pub unique : (net : Net) (s : Running) (w : List ℕ) (s' s'' : Running) (r r' : Answer Part) → Promised net s w s' r → Promised net s w s'' r' → (s' ≡ s'') × (r ≡ r')
unique net s w s' s'' r r' a b = (a.0 ∙ sym b.0, a.1 ∙ sym b.1)

pub unique_value : (net : Net) (s : Running) (w : List ℕ) (f f' : Fed) → f ≡ fed_of net s w → f' ≡ fed_of net s w → f ≡ f'
unique_value net s w f f' a b = a ∙ sym b

-- what is promised by value is promised of the lent state
pub lent : (net : Net) (s : Running) (w : List ℕ) (f : Fed) → f ≡ fed_of net s w → Promised net s w f.state f.answer
lent net s w f e = (ap (λ (z : Fed). z.state) e, ap (λ (z : Fed). z.answer) e)

-- ---- the chain of refusals, read demand by demand
at_tokens : (net : Net) (s : Running) (p : ℕ) → TokensAt net s p → tokens_over s.fired (get_or net.caps p 0) (get_or s.marking p 0) ≡ false
at_tokens net s p t =
    both_false (ltb (tokens_after s.fired) (get_or s.marking p 0)) (ltb (get_or net.caps p 0) no_capacity && ltb (get_or net.caps p 0) (get_or s.marking p 0))
    (le-ltb (tokens_after s.fired) (get_or s.marking p 0) t.few)
    (go (dec_lt (get_or net.caps p 0) no_capacity))
  where
    go : Dec (get_or net.caps p 0 < no_capacity) → (ltb (get_or net.caps p 0) no_capacity && ltb (get_or net.caps p 0) (get_or s.marking p 0)) ≡ false
    go (yes h) = rw (lt-ltb (get_or net.caps p 0) no_capacity h) (le-ltb (get_or net.caps p 0) (get_or s.marking p 0) (t.within h))
    go (no n) = rw (le-ltb (get_or net.caps p 0) no_capacity (omega arith))

tokens_reads : (net : Net) (s : Running) → Reads (tokens_fault net.places net.caps s.fired s.marking) (λ n at Next. First ((p : ℕ) → p < net.places → TokensAt net s p) (GivenAt 3 (TokensAt net s) net.places n at) Next)
unfolding tokens_fault
tokens_reads net s =
    reads_test (tells_scan (λ p. tokens_over s.fired (get_or net.caps p 0) (get_or s.marking p 0)) net.places 3 {D = TokensAt net s} (tokens_at_lem net s) (at_tokens net s))

letters_reads : (T fired : ℕ) (w : List ℕ) → Reads (letters_fault T fired w) (λ n at Next. First (fired + length w ≤ word_limit) (Given 4 0 n at) (First (Letters T w) (GivenAt 5 (λ k. get_or w k 0 < T) (length w) n at) Next))
unfolding letters_fault
letters_reads T fired w =
    reads_both (reads_test (tells_test _ 4 0 (λ e. ltb-false word_limit (fired + length w) e) (λ h. le-ltb word_limit (fired + length w) h)))
    (reads_test (tells_as (λ h. record { at = h }) (λ (l : Letters T w). l.at)
    (tells_scan (λ k. leb T (get_or w k 0)) (length w) 5 {D = λ k. get_or w k 0 < T} (λ k e. leb-false T (get_or w k 0) e) (λ k h. lt-leb T (get_or w k 0) h))))

placed_is : (P blocked place : ℕ) → (is_blocked blocked ≡ true → place < P) → (is_blocked blocked && leb P place) ≡ false
placed_is P blocked place h = go (is_blocked blocked) h
  where
    go : (b : Bool) → (b ≡ true → place < P) → (b && leb P place) ≡ false
    go true h = lt-leb P place (h refl)
    go false h = refl

block_reads : (P blocked place : ℕ) → Reads (block_fault P blocked place) (λ n at Next. First (is_blocked blocked ≡ true → place < P) (Given 13 0 n at) Next)
unfolding block_fault
block_reads P blocked place =
    reads_test (tells_test (is_blocked blocked && leb P place) 13 0 (λ e q. leb-false P place (rw q at e)) (placed_is P blocked place))

state_reads : (net : Net) (s : Running) → Reads (state_fault net s.fired s.marking) (λ n at Next. CountsFirst net (true ≡ true) n at (First ((p : ℕ) → p < net.places → TokensAt net s p) (GivenAt 3 (TokensAt net s) net.places n at) (LooseFirst net n at Next)))
unfolding state_fault
state_reads net s = reads_both (counts_reads net true {Others = true ≡ true} (λ h. h) (λ h. h)) (reads_both (tokens_reads net s) (loose_reads net))

read_chain : (net : Net) (s : Running) (w : List ℕ) → Chain (part_fault net s w) (Refusal net s w)
unfolding part_fault
read_chain net s w =
    reads_all (reads_both (state_reads net s) (reads_both (letters_reads net.transitions s.fired w) (block_reads net.places s.blocked s.place)))

-- nothing is refused exactly where all that is asked holds
met_tokens : (net : Net) (s : Running) → ((p : ℕ) → p < net.places → TokensAt net s p) → tokens_fault net.places net.caps s.fired s.marking ≡ Ok tt
unfolding tokens_fault
met_tokens net s h =
    let e = first_none (λ p. tokens_over s.fired (get_or net.caps p 0) (get_or s.marking p 0)) net.places (λ p l. at_tokens net s p (h p l)) in
    sound_refuse _ 3 _ (le-ltb (bad_tokens net.places net.caps s.fired s.marking) net.places (omega arith))

met_letters : (T fired : ℕ) (w : List ℕ) → fired + length w ≤ word_limit → Letters T w → letters_fault T fired w ≡ Ok tt
unfolding letters_fault
met_letters T fired w h l =
    let e = first_none (λ k. leb T (get_or w k 0)) (length w) (λ k b. lt-leb T (get_or w k 0) (l.at k b)) in
    sound_or _ _ (sound_refuse _ 4 0 (le-ltb word_limit (fired + length w) h)) (sound_refuse _ 5 (bad_letter T w) (le-ltb (bad_letter T w) (length w) (omega arith)))

met_block : (P blocked place : ℕ) → (is_blocked blocked ≡ true → place < P) → block_fault P blocked place ≡ Ok tt
unfolding block_fault
met_block P blocked place h = sound_refuse _ 13 0 (placed_is P blocked place h)

pub allowed_sound : (net : Net) (s : Running) (w : List ℕ) → Allowed net s w → part_fault net s w ≡ Ok tt
unfolding part_fault state_fault
allowed_sound net s w a =
    sound_or _ _
    (sound_or _ _ (met_counts net true (record { sized = a.sized; light = a.light; fitting = refl })) (sound_or _ _ (met_tokens net s a.tokens) (met_loose net a.wired)))
    (sound_or _ _ (met_letters net.transitions s.fired w a.short a.letters) (met_block net.places s.blocked s.place a.placed))

-- the answer by the fault
module _ (net : Net) (s : Running) (w : List ℕ) where
  none_refused : (n at : ℕ) → (fed_by (Ok tt) net s w).answer ≡ refused n at → ⊥
  none_refused n at = held_or (is_blocked s.blocked)
    where
      went : (x : Replay) (m : List ℕ) → (went_on s m x).answer ≡ refused n at → ⊥
      went (replay.Fired k) m e = not_refused _ n at e
      went (replay.Blocked k why) m e = not_refused _ n at e

      held_or : (b : Bool) → (cond b (held_block s) (played_on net s w)).answer ≡ refused n at → ⊥
      held_or true e = not_refused _ n at e
      held_or false e = went (play_from net s.fired (held net s) w).answer (sets s.marking 0 (play_from net s.fired (held net s) w).left) e

  fed_or : (f : Fault) → (fed_by f net s w).answer ≡ or_else f (fed_by (Ok tt) net s w).answer
  fed_or (Ok _) = refl
  fed_or (Err r) = refl

  module _ (s' : Running) (r : Answer Part) (p : Promised net s w s' r) where
    answers : Answers (part_fault net s w) r
    unfolding fed_of
    answers = answers_of (part_fault net s w) (fed_by (Ok tt) net s w).answer r (p.1 ∙ fed_or (part_fault net s w)) (λ n at q. none_refused n at)

    -- a refusal has the number and position of the first demand that does not hold, and is given exactly then
    pub refused_exactly : (n at : ℕ) → (r ≡ refused n at) ↔ Refusal net s w n at
    refused_exactly = exactly_refused answers (read_chain net s w)

    -- it changes nothing
    pub refused_as_found : (n at : ℕ) → r ≡ refused n at → s' ≡ s
    unfolding fed_of
    refused_as_found n at e = let f = fault_is answers n at e in p.0 ∙ ap (λ (x : Fault). (fed_by x net s w).state) f

    -- a refusal is given exactly where something that is asked does not hold
    pub allowed_answered : Allowed net s w → (n at : ℕ) → r ≡ refused n at → ⊥
    allowed_answered = is_answered answers (allowed_sound net s w)

    pub answered_allowed : ((n at : ℕ) → r ≡ refused n at → ⊥) → Allowed net s w
    answered_allowed = is_allowed answers (sound_allowed net s w)

    pub refused_unless : (Allowed net s w → ⊥) → (n : ℕ) × (at : ℕ) × (r ≡ refused n at)
    refused_unless h = go (part_fault net s w) refl
      where
        go : (f : Fault) → part_fault net s w ≡ f → (n : ℕ) × (at : ℕ) × (r ≡ refused n at)
        go (Ok _) e = absurd (h (sound_allowed net s w e))
        go (Err r) e = (r.number, r.at, answers.given r.number r.at e)

    -- "A part with a wrong letter is refused, blocked or not."
    pub wrong_letter : (Letters net.transitions w → ⊥) → (n : ℕ) × (at : ℕ) × (r ≡ refused n at)
    wrong_letter h = refused_unless (λ a. h a.letters)

-- ---- the start
module _ (net : Net) (initial : List ℕ) where
  pub start_sound : StartAllowed net initial → marked_fault net initial true ≡ Ok tt
  start_sound a =
      met_marked net initial true (record { sized = a.sized; light = a.light; marked = a.marked; fitting = refl; fine = a.fine; wired = a.wired })

  sound_start : marked_fault net initial true ≡ Ok tt → StartAllowed net initial
  sound_start e =
      let m = marked_met net initial true e in
      record { sized = m.sized; light = m.light; marked = m.marked; fine = m.fine; wired = m.wired }

  module _ (f : Fed) (p : f ≡ start_of net initial) where
    start_answers : Answers (marked_fault net initial true) f.answer
    unfolding start_of
    start_answers = answers_ok (marked_fault net initial true) (Fired 0) f.answer (ap (λ (z : Fed). z.answer) p ∙ started (marked_fault net initial true))
      where
        started : (x : Fault) → (started_by x initial).answer ≡ or_else x (Ok (Fired 0))
        started (Ok _) = refl
        started (Err r) = refl

    pub start_refused_exactly : (n at : ℕ) → (f.answer ≡ refused n at) ↔ StartRefusal net initial n at
    start_refused_exactly =
        exactly_refused start_answers (reads_all (marked_reads net initial true {Others = true ≡ true} (λ h. h) (λ h. h)))

    pub start_allowed_answered : StartAllowed net initial → (n at : ℕ) → f.answer ≡ refused n at → ⊥
    start_allowed_answered = is_answered start_answers start_sound

    pub start_answered_allowed : ((n at : ℕ) → f.answer ≡ refused n at → ⊥) → StartAllowed net initial
    start_answered_allowed = is_allowed start_answers sound_start

pub start_unique : (net : Net) (initial : List ℕ) (f f' : Fed) → f ≡ start_of net initial → f' ≡ start_of net initial → f ≡ f'
start_unique net initial f f' a b = a ∙ sym b
