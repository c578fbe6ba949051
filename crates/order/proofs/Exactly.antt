-- The promise has one answer, one room and one work space; nothing is refused exactly where all that is asked holds; each refusal is the one of the first demand that does not hold. Assumes nothing.
use Rattle.std.specs.Prelude.{Ok, Err}
use Rattle.refusals.specs.Given.{Answer, Fault, refused}
use Prim.Native.Nat.{ℕ, ◌+◌, ◌≤◌, ◌<◌}
use mathlib.Core.Path.{◌≡◌, refl, sym, ap, ◌∙◌}
use mathlib.Core.Bool.{true, cond}
use mathlib.Core.List.{List}
use mathlib.Core.Logic.{◌↔◌}
use native.Mathlib.Omega.{arith}
use lib.ListN.{length, get_or, replicate}
use lib.Dec.{eqb}
use borrow.Author.Tests.{eq-eqb, eqb-true}
use Rattle.ground.proofs.Tests.{and-true}
use Rattle.net.specs.Net.{Net}
use Rattle.refusals.specs.Given.{or_else, marked_fault, word_fault, Letters}
use Rattle.refusals.specs.First.{First, fails, holds, GivenAt, WordFirst}
use Rattle.refusals.proofs.Chains.{or_sound, sound_or}
use Rattle.refusals.proofs.Refusals.{marked_met, met_marked}
use Rattle.refusals.proofs.Words.{word_met, met_word}
use Rattle.refusals.proofs.Exactly.{Chain, Reads, reads_both, reads_all, marked_reads, word_reads, Answers, not_refused, fault_is, exactly_refused, is_answered, is_allowed}
use Rattle.orders.specs.Orders.{logs_of}
use Rattle.orders.specs.Lengths.{log_limit, work_length, long_fault, LongFirst}
use Rattle.orders.specs.Search.{Way, no_order, an_order, way_of}
use Rattle.orders.proofs.Lengths.{long_met, met_long, long_reads}
use Rattle.order.specs.Entry.{logs_fault, order_fault, rooms_fit, found, order_of, numbers, Ordered, Allowed, Refusal}
use Rattle.order.specs.declared.LogOrder.{LogOrder}
use Rattle.order.specs.declared.LogOrder.TheVariants.{Found, NoneFires}

-- `numbers` tells any two answers apart: the answer is read back from them
abbrev back : List ℕ → Answer LogOrder
back ns = cond (eqb (get_or ns 0 0) 0x82) (refused (get_or ns 1 0) (get_or ns 2 0)) (cond (eqb (get_or ns 1 0) 0) (Ok Found) (Ok NoneFires))

numbers_back : (a : Answer LogOrder) → back (numbers a) ≡ a
numbers_back (Ok Found) = refl
numbers_back (Ok NoneFires) = refl
numbers_back (Err r) = refl

pub numbers_apart : (a b : Answer LogOrder) → numbers a ≡ numbers b → a ≡ b
numbers_apart a b e = sym (numbers_back a) ∙ ap back e ∙ numbers_back b

-- the promise has one answer, one content of the room and one of the work space
pub unique : (net : Net) (initial first second room work : List ℕ) (r r' : Answer LogOrder) (m m' w w' : List ℕ)
    → Ordered net initial first second room work r m w → Ordered net initial first second room work r' m' w' → (r ≡ r') × ((m ≡ m') × (w ≡ w'))
unique net initial first second room work r r' m m' w w' a b = (numbers_apart r r' (a.answer ∙ sym b.answer), (a.left ∙ sym b.left, a.cleared ∙ sym b.cleared))

-- ---- the chain of refusals
-- a demand that holds is passed over; what comes next is read otherwise
past : {D G N : Type 0} → D → First D G N → N
past d (fails miss g) = absurd (miss d)
past d (holds h n) = n

next_as : {D G N M : Type 0} → (N → M) → First D G N → First D G M
next_as f (fails miss g) = fails miss g
next_as f (holds d n) = holds d (f n)

reads_as : {f : Fault} {R S : ℕ → ℕ → Type 0 → Type 0} → ((n at : ℕ) (Next : Type 0) → R n at Next ↔ S n at Next) → Reads f R → Reads f S
reads_as same a =
    record {
      then = λ g Next c. record {
        exactly = λ n at.
            let x = (a.then g Next c).exactly n at in
            let y = same n at (Next n at) in
            (λ e. y.0 (x.0 e), λ s. x.1 (y.1 s));
      };
    }

module _ (T : ℕ) (first second : List ℕ) where
  -- both logs are short and their letters name transitions
  pub logs_met : logs_fault T first second ≡ Ok tt → ((length first ≤ log_limit) × (length second ≤ log_limit)) × (Letters T first × Letters T second)
  unfolding logs_fault
  logs_met e =
      let a = or_sound (long_fault (length first) (length second)) (or_else (word_fault T first) (word_fault T second)) e in
      let b = or_sound (word_fault T first) (word_fault T second) a.1 in
      (long_met (length first) (length second) a.0, ((word_met T first b.0).letters, (word_met T second b.1).letters))

  pub met_logs : length first ≤ log_limit → length second ≤ log_limit → Letters T first → Letters T second → logs_fault T first second ≡ Ok tt
  unfolding logs_fault
  met_logs a b u v =
      sound_or _ _ (met_long (length first) (length second) a b)
      (sound_or _ _ (met_word T first (record { short = omega arith; letters = u })) (met_word T second (record { short = omega arith; letters = v })))

  -- 5 is asked of logs that 4 has passed already
  abbrev LettersFirst : List ℕ → ℕ → ℕ → Type 0 → Type 0
  LettersFirst w n at Next = First (Letters T w) (GivenAt 5 (λ k. get_or w k 0 < T) (length w) n at) Next

  short_words : (n at : ℕ) (Next : Type 0)
      → LongFirst first second n at (WordFirst T first n at (WordFirst T second n at Next)) ↔ LongFirst first second n at (LettersFirst first n at (LettersFirst second n at Next))
  short_words n at Next = (there, again)
    where
      there : LongFirst first second n at (WordFirst T first n at (WordFirst T second n at Next)) → LongFirst first second n at (LettersFirst first n at (LettersFirst second n at Next))
      there (fails miss g) = fails miss g
      there (holds d x) = holds d (next_as (λ y. next_as (past d.1) (past d.0 y)) x)

      again : LongFirst first second n at (LettersFirst first n at (LettersFirst second n at Next)) → LongFirst first second n at (WordFirst T first n at (WordFirst T second n at Next))
      again (fails miss g) = fails miss g
      again (holds d x) = holds d (next_as (λ y. holds d.0 (next_as (λ z. holds d.1 z) y)) x)

  logs_reads : Reads (logs_fault T first second) (λ n at Next. LongFirst first second n at (LettersFirst first n at (LettersFirst second n at Next)))
  unfolding logs_fault
  logs_reads = reads_as short_words (reads_both (long_reads first second) (reads_both (word_reads T first) (word_reads T second)))

-- the lengths of room and work space
module _ (first second room work : List ℕ) where
  fits_of : rooms_fit first second room work ≡ true → (length room ≡ length first + length second) × (length work ≡ work_length)
  fits_of e =
      let f = and-true (eqb (length room) (length first + length second)) (eqb (length work) work_length) e in
      (eqb-true (length room) (length first + length second) f.0, eqb-true (length work) work_length f.1)

  of_fits : (length room ≡ length first + length second) × (length work ≡ work_length) → rooms_fit first second room work ≡ true
  of_fits h = rw (eq-eqb (length room) (length first + length second) h.0, eq-eqb (length work) work_length h.1)

module _ (net : Net) (initial first second room work : List ℕ) where
  pub allowed_of : order_fault net initial first second (rooms_fit first second room work) ≡ Ok tt → Allowed net initial first second room work
  unfolding order_fault
  allowed_of e =
      let a = or_sound (marked_fault net initial (rooms_fit first second room work)) (logs_fault net.transitions first second) e in
      let m = marked_met net initial (rooms_fit first second room work) a.0 in
      let f = fits_of first second room work m.fitting in
      let l = logs_met net.transitions first second a.1 in
      record {
        sized = m.sized;
        light = m.light;
        marked = m.marked;
        roomy = f.0;
        bytes = f.1;
        fine = m.fine;
        wired = m.wired;
        short_first = l.0.0;
        short_second = l.0.1;
        letters_first = l.1.0;
        letters_second = l.1.1;
      }

  pub of_allowed : Allowed net initial first second room work → order_fault net initial first second (rooms_fit first second room work) ≡ Ok tt
  unfolding order_fault
  of_allowed a =
      sound_or _ _
      (met_marked net initial (rooms_fit first second room work)
      (record { sized = a.sized; light = a.light; marked = a.marked; fitting = of_fits first second room work (a.roomy, a.bytes); fine = a.fine; wired = a.wired }))
      (met_logs net.transitions first second a.short_first a.short_second a.letters_first a.letters_second)

  order_chain : Chain (order_fault net initial first second (rooms_fit first second room work)) (Refusal net initial first second room work)
  unfolding order_fault
  order_chain =
      reads_all
      (reads_both (marked_reads net initial (rooms_fit first second room work) (fits_of first second room work) (of_fits first second room work))
      (logs_reads net.transitions first second))

-- what is found is never a refusal
never_refused : (way : Way) (room : List ℕ) (n at : ℕ) → (found way room).answer ≡ refused n at → ⊥
never_refused no_order room n at e = not_refused NoneFires n at e
never_refused (an_order order) room n at e = not_refused Found n at e

-- whatever is found, the work space is zero
found_zero : (way : Way) (room : List ℕ) → (found way room).work ≡ replicate work_length 0
found_zero no_order room = refl
found_zero (an_order order) room = refl

-- ---- an order or none is answered exactly where nothing is refused
module _ (net : Net) (initial first second room work : List ℕ) (r : Answer LogOrder) (room' work' : List ℕ) (promise : Ordered net initial first second room work r room' work') where
  answer_is : r ≡ (order_of net initial first second room work).answer
  answer_is = numbers_apart r (order_of net initial first second room work).answer promise.answer

  answers : Answers (order_fault net initial first second (rooms_fit first second room work)) r
  answers =
      record {
        given = λ n at f. answer_is ∙ rw f;
        never = λ f n at e. never_refused (way_of (logs_of net first second) initial) room n at (sym (rw f at answer_is) ∙ e);
      }

  -- a refusal has the number and position of the first demand that does not hold, and is given exactly then
  pub refused_exactly : (n at : ℕ) → (r ≡ refused n at) ↔ Refusal net initial first second room work n at
  refused_exactly = exactly_refused answers (order_chain net initial first second room work)

  -- "A refusal leaves lent memory as found."
  pub refused_as_found : (n at : ℕ) → r ≡ refused n at → (room' ≡ room) × (work' ≡ work)
  refused_as_found n at e = let f = fault_is answers n at e in (rw f at promise.left, rw f at promise.cleared)

  pub allowed_answered : Allowed net initial first second room work → (n at : ℕ) → r ≡ refused n at → ⊥
  allowed_answered = is_answered answers (of_allowed net initial first second room work)

  pub answered_allowed : ((n at : ℕ) → r ≡ refused n at → ⊥) → Allowed net initial first second room work
  answered_allowed = is_allowed answers (allowed_of net initial first second room work)

  -- "any answer but a refusal leaves them zero"
  pub zero_after : ((n at : ℕ) → r ≡ refused n at → ⊥) → work' ≡ replicate work_length 0
  zero_after none =
      let f = of_allowed net initial first second room work (answered_allowed none) in
      let w : work' ≡ (found (way_of (logs_of net first second) initial) room).work = rw f at promise.cleared in
      w ∙ found_zero (way_of (logs_of net first second) initial) room

  -- where nothing is refused, answer and room are those of the order that is to be given
  module _ (allowed : Allowed net initial first second room work) where
    is_way : (r ≡ (found (way_of (logs_of net first second) initial) room).answer) × (room' ≡ (found (way_of (logs_of net first second) initial) room).left)
    is_way = let f = of_allowed net initial first second room work allowed in (rw f at answer_is, rw f at promise.left)

    pub way_found : (order : List ℕ) → way_of (logs_of net first second) initial ≡ an_order order → (r ≡ Ok Found) × (room' ≡ order)
    way_found order e = (rw e at is_way.0, rw e at is_way.1)

    pub way_none_fires : way_of (logs_of net first second) initial ≡ no_order → (r ≡ Ok NoneFires) × (room' ≡ room)
    way_none_fires e = (rw e at is_way.0, rw e at is_way.1)

  pub found_allowed : r ≡ Ok Found → Allowed net initial first second room work
  found_allowed e = answered_allowed (λ n at q. not_refused Found n at (sym e ∙ q))

  pub none_allowed : r ≡ Ok NoneFires → Allowed net initial first second room work
  none_allowed e = answered_allowed (λ n at q. not_refused NoneFires n at (sym e ∙ q))

  -- the order found is the one to be given
  pub found_way : r ≡ Ok Found → way_of (logs_of net first second) initial ≡ an_order room'
  found_way e = go (way_of (logs_of net first second) initial) refl
    where
      go : (way : Way) → way_of (logs_of net first second) initial ≡ way → way_of (logs_of net first second) initial ≡ an_order room'
      go no_order q = let x = (way_none_fires (found_allowed e) q).0 in let z : ◌≡◌ {A = ℕ} 0 1 = cc in absurd (omega arith)
      go (an_order order) q = q ∙ ap an_order (sym (way_found (found_allowed e) order q).1)

  pub none_way : r ≡ Ok NoneFires → way_of (logs_of net first second) initial ≡ no_order
  none_way e = go (way_of (logs_of net first second) initial) refl
    where
      go : (way : Way) → way_of (logs_of net first second) initial ≡ way → way_of (logs_of net first second) initial ≡ no_order
      go no_order q = q
      go (an_order order) q = let x = (way_found (none_allowed e) order q).0 in let z : ◌≡◌ {A = ℕ} 0 1 = cc in absurd (omega arith)

  -- ""none" leaves the room for the order as found"
  pub none_as_found : r ≡ Ok NoneFires → room' ≡ room
  none_as_found e = (way_none_fires (none_allowed e) (none_way e)).1
