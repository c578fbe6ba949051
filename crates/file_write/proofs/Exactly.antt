-- Each promise has one answer; nothing is refused exactly where all that is asked holds; each refusal is the one of the first demand that does not hold. Assumes nothing.
use Rattle.std.specs.Prelude.{Ok, Err}
use Rattle.refusals.specs.Given.{Answer, Fault, refusal, refused, or_else}
use Prim.Native.Nat.{ℕ, ◌≤◌, ◌<◌}
use mathlib.Core.Path.{◌≡◌, refl, sym, ap, ◌∙◌}
use mathlib.Core.Bool.{true}
use mathlib.Core.List.{List}
use mathlib.Core.Logic.{◌↔◌}
use native.Mathlib.Omega.{arith}
use lib.ListN.{length}
use lib.Seq.{sets}
use lib.Dec.{ltb}
use borrow.Author.Tests.{lt-ltb, le-ltb, ltb-false}
use Rattle.net.specs.Net.{Net}
use Rattle.refusals.specs.Given.{marked_fault, word_fault}
use Rattle.refusals.specs.First.{First, Given}
use Rattle.refusals.proofs.Chains.{or_sound, sound_or, refuse_sound, sound_refuse}
use Rattle.refusals.proofs.Refusals.{marked_met, met_marked}
use Rattle.refusals.proofs.Words.{word_met, met_word}
use Rattle.refusals.proofs.Exactly.{Chain, Reads, tells_test, reads_test, reads_both, reads_all, marked_reads, word_reads, Answers, answers_ok, same_refusal, fault_is, exactly_refused, is_answered, is_allowed}
use Rattle.file_text.specs.Text.{file_of}
use Rattle.file_write.specs.Told.{text_fault, numbers, length_of, LengthTold, Writable, TextFirst, LengthRefusal}
use Rattle.file_write.specs.Entry.{room_fault, write_fault, answered, write_of, CaseWritten, Allowed, Refusal}

-- `numbers` tells any two answers apart
pub numbers_apart : (a b : Answer ℕ) → numbers a ≡ numbers b → a ≡ b
numbers_apart (Ok n) (Ok k) e = ap Ok (cc)
numbers_apart (Ok n) (Err q) e = let z : ◌≡◌ {A = ℕ} 0x81 0x82 = cc in absurd (omega arith)
numbers_apart (Err r) (Ok k) e = let z : ◌≡◌ {A = ℕ} 0x82 0x81 = cc in absurd (omega arith)
numbers_apart (Err r) (Err q) e = same_refusal r q (cc) (cc)

-- each promise has one answer, and one content of the room
pub length_unique : (net : Net) (initial w : List ℕ) (r r' : Answer ℕ) → LengthTold net initial w r → LengthTold net initial w r' → r ≡ r'
length_unique net initial w r r' a b = numbers_apart r r' (a.answer ∙ sym b.answer)

pub unique : (net : Net) (initial w room : List ℕ) (r r' : Answer ℕ) (a b : List ℕ) → CaseWritten net initial w room r a → CaseWritten net initial w room r' b → (r ≡ r') × (a ≡ b)
unique net initial w room r r' a b x y = (numbers_apart r r' (x.answer ∙ sym y.answer), x.left ∙ sym y.left)

-- ---- the chains of refusals
module _ (net : Net) (initial w : List ℕ) where
  pub writable_of : text_fault net initial w ≡ Ok tt → Writable net initial w
  unfolding text_fault
  writable_of e =
      let a = or_sound (marked_fault net initial true) (word_fault net.transitions w) e in
      let m = marked_met net initial true a.0 in
      let l = word_met net.transitions w a.1 in
      record { sized = m.sized; light = m.light; marked = m.marked; fine = m.fine; wired = m.wired; short = l.short; letters = l.letters }

  pub of_writable : Writable net initial w → text_fault net initial w ≡ Ok tt
  unfolding text_fault
  of_writable a =
      sound_or _ _
      (met_marked net initial true (record { sized = a.sized; light = a.light; marked = a.marked; fitting = refl; fine = a.fine; wired = a.wired }))
      (met_word net.transitions w (record { short = a.short; letters = a.letters }))

  text_reads : Reads (text_fault net initial w) (TextFirst net initial w)
  unfolding text_fault
  text_reads = reads_both (marked_reads net initial true {Others = Unit {0}} (λ e. tt) (λ u. refl)) (word_reads net.transitions w)

  length_chain : Chain (text_fault net initial w) (LengthRefusal net initial w)
  length_chain = reads_all text_reads

-- 14 tells of a room of k bytes for a file of n
module _ (n k : ℕ) where
  roomy_of : room_fault n k ≡ Ok tt → n ≤ k
  unfolding room_fault
  roomy_of e = ltb-false k n (refuse_sound _ 14 0 e)

  of_roomy : n ≤ k → room_fault n k ≡ Ok tt
  unfolding room_fault
  of_roomy h = sound_refuse _ 14 0 (le-ltb k n h)

  room_reads : Reads (room_fault n k) (λ m at Next. First (n ≤ k) (Given 14 0 m at) Next)
  unfolding room_fault
  room_reads = reads_test (tells_test (ltb k n) 14 0 (λ e. ltb-false k n e) (λ h. le-ltb k n h))

module _ (net : Net) (initial w room : List ℕ) where
  pub allowed_of : write_fault net initial w (length room) ≡ Ok tt → Allowed net initial w room
  unfolding write_fault
  allowed_of e =
      let a = or_sound (text_fault net initial w) (room_fault (length (file_of net initial w)) (length room)) e in
      record { writable = writable_of net initial w a.0; roomy = roomy_of (length (file_of net initial w)) (length room) a.1 }

  pub of_allowed : Allowed net initial w room → write_fault net initial w (length room) ≡ Ok tt
  unfolding write_fault
  of_allowed a = sound_or _ _ (of_writable net initial w a.writable) (of_roomy (length (file_of net initial w)) (length room) a.roomy)

  -- what is refused of the net, its marking and the word is refused whatever the room
  pub fault_first : (n at : ℕ) → text_fault net initial w ≡ Err (refusal n at) → write_fault net initial w (length room) ≡ Err (refusal n at)
  unfolding write_fault
  fault_first n at e = rw e

  pub fault_last : Writable net initial w → length room < length (file_of net initial w) → write_fault net initial w (length room) ≡ Err (refusal 14 0)
  unfolding write_fault room_fault
  fault_last a h = rw (of_writable net initial w a, lt-ltb (length room) (length (file_of net initial w)) h)

  write_chain : Chain (write_fault net initial w (length room)) (Refusal net initial w room)
  unfolding write_fault
  write_chain = reads_all (reads_both (text_reads net initial w) (room_reads (length (file_of net initial w)) (length room)))

-- ---- how long: told exactly where nothing is refused
module _ (net : Net) (initial w : List ℕ) (r : Answer ℕ) (promise : LengthTold net initial w r) where
  length_is : r ≡ length_of net initial w
  length_is = numbers_apart r (length_of net initial w) promise.answer

  length_answers : Answers (text_fault net initial w) r
  length_answers = answers_ok (text_fault net initial w) (length (file_of net initial w)) r length_is

  pub length_fault : (n at : ℕ) → r ≡ refused n at → text_fault net initial w ≡ Err (refusal n at)
  length_fault = fault_is length_answers

  -- a refusal has the number and position of the first demand that does not hold, and is given exactly then
  pub length_refused_exactly : (n at : ℕ) → (r ≡ refused n at) ↔ LengthRefusal net initial w n at
  length_refused_exactly = exactly_refused length_answers (length_chain net initial w)

  pub length_allowed_answered : Writable net initial w → (n at : ℕ) → r ≡ refused n at → ⊥
  length_allowed_answered = is_answered length_answers (of_writable net initial w)

  pub length_answered_allowed : ((n at : ℕ) → r ≡ refused n at → ⊥) → Writable net initial w
  length_answered_allowed = is_allowed length_answers (writable_of net initial w)

  pub allowed_told : Writable net initial w → r ≡ Ok (length (file_of net initial w))
  allowed_told a = rw (of_writable net initial w a) at length_is

-- ---- the file: written exactly where nothing is refused
answer_or : (f : Fault) (file room : List ℕ) → (answered f file room).answer ≡ or_else f (Ok (length file))
answer_or (Ok _) file room = refl
answer_or (Err r) file room = refl

module _ (net : Net) (initial w room : List ℕ) (r : Answer ℕ) (room' : List ℕ) (promise : CaseWritten net initial w room r room') where
  answer_is : r ≡ (write_of net initial w room).answer
  answer_is = numbers_apart r (write_of net initial w room).answer promise.answer

  write_answers : Answers (write_fault net initial w (length room)) r
  write_answers =
      answers_ok (write_fault net initial w (length room)) (length (file_of net initial w)) r (answer_is ∙ answer_or (write_fault net initial w (length room)) (file_of net initial w) room)

  pub refused_by : (n at : ℕ) → write_fault net initial w (length room) ≡ Err (refusal n at) → r ≡ refused n at
  refused_by = write_answers.given

  -- a refusal has the number and position of the first demand that does not hold, and is given exactly then
  pub refused_exactly : (n at : ℕ) → (r ≡ refused n at) ↔ Refusal net initial w room n at
  refused_exactly = exactly_refused write_answers (write_chain net initial w room)

  -- "A refusal leaves lent memory as found."
  pub refused_as_found : (n at : ℕ) → r ≡ refused n at → room' ≡ room
  refused_as_found n at e = let f = fault_is write_answers n at e in rw f at promise.left

  pub allowed_answered : Allowed net initial w room → (n at : ℕ) → r ≡ refused n at → ⊥
  allowed_answered = is_answered write_answers (of_allowed net initial w room)

  pub answered_allowed : ((n at : ℕ) → r ≡ refused n at → ⊥) → Allowed net initial w room
  answered_allowed = is_allowed write_answers (allowed_of net initial w room)

  pub allowed_written : Allowed net initial w room → (r ≡ Ok (length (file_of net initial w))) × (room' ≡ sets room 0 (file_of net initial w))
  allowed_written a = let f = of_allowed net initial w room a in (rw f at answer_is, rw f at promise.left)
