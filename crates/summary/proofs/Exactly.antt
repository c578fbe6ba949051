-- "Given exactly when": what is allowed is answered, what is answered is allowed, and each refusal is the one of the first demand that does not hold.
-- Each is said of whatever keeps the entry's promise. Assumes nothing.
use Rattle.std.specs.Prelude.{Ok}
use Prim.Native.Nat.{ℕ}
use mathlib.Core.Path.{◌≡◌, refl, ◌∙◌}
use mathlib.Core.Bool.{Bool, true}
use mathlib.Core.List.{List}
use mathlib.Core.Logic.{◌↔◌}
use lib.ListN.{length}
use lib.Dec.{leb}
use borrow.Author.Tests.{le-leb, leb-true}
use Rattle.ground.proofs.Tests.{and-true}
use Rattle.net.specs.Net.{Net}
use Rattle.refusals.specs.Given.{Answer, refused, refuse, outside, stretch, inside}
use Rattle.refusals.specs.First.{NetFirst, WordFirst}
use Rattle.refusals.proofs.Chains.{refuse_sound, sound_refuse}
use Rattle.refusals.proofs.Exactly.{Answers, Chain, answers_ok, tells_test, reads_test, reads_both, reads_all, net_reads, word_reads, exactly_refused, is_answered, is_allowed}
use Rattle.summary_form.specs.Summary.{summary_of, empty_summary}
use Rattle.summary.specs.Entry.{empty_answer, part_fault, word_answer}
use Rattle.summary.specs.Allowed.{Inside, EmptyAllowed, EmptyRefusal, WordAllowed, WordRefusal, StretchAllowed, StretchRefusal}
use Rattle.summary_form.specs.declared.Summary.{Summary}
use Rattle.summary.proofs.Answers.{sane_of, sane_is}
use Rattle.summary_form.proofs.Formed.{count_of, of_count}

-- ---- the empty summary
module _ (P : ℕ) (r : Answer Summary) (p : r ≡ empty_answer P) where
  empty_answers : Answers (refuse (outside P) 1 0) r
  empty_answers = answers_ok (refuse (outside P) 1 0) (empty_summary P) r p

  pub empty_refused_exactly : (n at : ℕ) → (r ≡ refused n at) ↔ EmptyRefusal P n at
  empty_refused_exactly = exactly_refused empty_answers (reads_all (reads_test (tells_test _ 1 0 (count_of P) (of_count P))))

  pub empty_allowed_answered : EmptyAllowed P → (n at : ℕ) → r ≡ refused n at → ⊥
  empty_allowed_answered = is_answered empty_answers (λ a. sound_refuse (outside P) 1 0 (of_count P a))

  pub empty_allowed_made : EmptyAllowed P → r ≡ Ok (empty_summary P)
  empty_allowed_made a = p ∙ rw (sound_refuse (outside P) 1 0 (of_count P a))

  pub empty_answered_allowed : ((n at : ℕ) → r ≡ refused n at → ⊥) → EmptyAllowed P
  empty_answered_allowed = is_allowed empty_answers (λ e. count_of P (refuse_sound (outside P) 1 0 e))

-- ---- a word's summary, and a stretch's: `within` tells whether it is inside its word, which is what `Others` says
part_chain : (net : Net) (w : List ℕ) (within : Bool) {Others : Type 0} → (within ≡ true → Others) → (Others → within ≡ true) → Chain (part_fault net w within) (λ n at. NetFirst net Others n at (WordFirst net.transitions w n at ⊥))
unfolding part_fault
part_chain net w within there back = reads_all (reads_both (net_reads net within there back) (word_reads net.transitions w))

module _ (net : Net) (w : List ℕ) (r : Answer Summary) (p : r ≡ word_answer net w true) where
  word_answers : Answers (part_fault net w true) r
  word_answers = answers_ok (part_fault net w true) (summary_of net w) r p

  of_word_allowed : WordAllowed net w → part_fault net w true ≡ Ok tt
  of_word_allowed a = sane_is net w true (record { sized = a.sized; light = a.light; fitting = refl; wired = a.wired; short = a.short; letters = a.letters })

  word_allowed_of : part_fault net w true ≡ Ok tt → WordAllowed net w
  word_allowed_of e = let s = sane_of net w true e in record { sized = s.sized; light = s.light; wired = s.wired; short = s.short; letters = s.letters }

  pub word_refused_exactly : (n at : ℕ) → (r ≡ refused n at) ↔ WordRefusal net w n at
  word_refused_exactly = exactly_refused word_answers (part_chain net w true (λ e. tt) (λ u. refl))

  pub word_allowed_answered : WordAllowed net w → (n at : ℕ) → r ≡ refused n at → ⊥
  word_allowed_answered = is_answered word_answers of_word_allowed

  pub word_allowed_made : WordAllowed net w → r ≡ Ok (summary_of net w)
  word_allowed_made a = p ∙ rw (of_word_allowed a)

  pub word_answered_allowed : ((n at : ℕ) → r ≡ refused n at → ⊥) → WordAllowed net w
  word_answered_allowed = is_allowed word_answers word_allowed_of

module _ (net : Net) (w : List ℕ) (a b : ℕ) (r : Answer Summary) (p : r ≡ word_answer net (stretch w a b) (inside w a b)) where
  stretch_answers : Answers (part_fault net (stretch w a b) (inside w a b)) r
  stretch_answers = answers_ok (part_fault net (stretch w a b) (inside w a b)) (summary_of net (stretch w a b)) r p

  inside_true : inside w a b ≡ true → Inside w a b
  inside_true e = let i = and-true (leb a b) (leb b (length w)) e in record { forward = leb-true a b i.0; within = leb-true b (length w) i.1 }

  true_inside : Inside w a b → inside w a b ≡ true
  true_inside i = rw (le-leb a b i.forward) (le-leb b (length w) i.within)

  of_stretch_allowed : StretchAllowed net w a b → part_fault net (stretch w a b) (inside w a b) ≡ Ok tt
  of_stretch_allowed s = sane_is net (stretch w a b) (inside w a b) (record { sized = s.sized; light = s.light; fitting = true_inside s.inside; wired = s.wired; short = s.short; letters = s.letters })

  stretch_allowed_of : part_fault net (stretch w a b) (inside w a b) ≡ Ok tt → StretchAllowed net w a b
  stretch_allowed_of e =
      let s = sane_of net (stretch w a b) (inside w a b) e in
      record { sized = s.sized; light = s.light; inside = inside_true s.fitting; wired = s.wired; short = s.short; letters = s.letters }

  pub stretch_refused_exactly : (n at : ℕ) → (r ≡ refused n at) ↔ StretchRefusal net w a b n at
  stretch_refused_exactly = exactly_refused stretch_answers (part_chain net (stretch w a b) (inside w a b) inside_true true_inside)

  pub stretch_allowed_answered : StretchAllowed net w a b → (n at : ℕ) → r ≡ refused n at → ⊥
  stretch_allowed_answered = is_answered stretch_answers of_stretch_allowed

  pub stretch_allowed_made : StretchAllowed net w a b → r ≡ Ok (summary_of net (stretch w a b))
  stretch_allowed_made s = p ∙ rw (of_stretch_allowed s)

  pub stretch_answered_allowed : ((n at : ℕ) → r ≡ refused n at → ⊥) → StretchAllowed net w a b
  stretch_answered_allowed = is_allowed stretch_answers stretch_allowed_of
