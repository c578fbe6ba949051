-- "Given exactly when": what is allowed is answered, what is answered is allowed, and each refusal is the one of the first demand that does not hold.
-- Each is said of whatever keeps the entry's promise. Assumes nothing.
use Prim.Native.Nat.{ℕ}
use mathlib.Core.Path.{◌≡◌, ◌∙◌}
use mathlib.Core.List.{List}
use mathlib.Core.Logic.{◌↔◌}
use lib.ListN.{length}
use lib.Dec.{eqb}
use Rattle.net.specs.Net.{Net}
use Rattle.refusals.specs.Given.{Answer, refused}
use Rattle.refusals.proofs.Exactly.{Answers, Chain, tells_test, reads_test, reads_both, reads_all, marked_reads, fault_is, exactly_refused, is_answered, is_allowed}
use Rattle.summary_ask.specs.Ask.{ask_fault, ask_answer, Replied}
use Rattle.summary_ask.specs.Allowed.{AskAllowed, AskRefusal}
use Rattle.summary_form.specs.declared.Summary.{Summary}
use Rattle.summary_ask.specs.declared.Asked.{Asked}
use Rattle.summary_form.proofs.Formed.{count_of, of_count}
use Rattle.summary_ask.proofs.Asking.{asked_apart, fits_of, of_fits, ask_allowed_of, of_ask_allowed, slots_asked, never_refused}
use Rattle.summary_form.proofs.Exactly.{formed_reads}

-- ---- a summary asked
ask_chain : (net : Net) (m : List ℕ) (s : Summary) (room : List ℕ) → Chain (ask_fault net m s (eqb (length room) net.places)) (AskRefusal net m s room)
unfolding ask_fault
ask_chain net m s room =
    reads_all
    (reads_both (reads_test (tells_test _ 1 0 (count_of s.places) (of_count s.places)))
    (reads_both (marked_reads net m _ (fits_of net m s room) (of_fits net m s room)) (formed_reads s)))

module _ (net : Net) (m : List ℕ) (s : Summary) (room : List ℕ) (r : Answer Asked) (room' : List ℕ) (p : Replied net m s room r room') where
  ask_answers : Answers (ask_fault net m s (eqb (length room) net.places)) r
  ask_answers =
      record {
        given = λ n at f. asked_apart r (ask_answer net m s room).answer p.answer ∙ rw f;
        never = λ f. never_refused s.slots net.caps m room r room' (slots_asked net m s room (ask_allowed_of net m s room f) r room' p);
      }

  pub ask_refused_exactly : (n at : ℕ) → (r ≡ refused n at) ↔ AskRefusal net m s room n at
  ask_refused_exactly = exactly_refused ask_answers (ask_chain net m s room)

  -- "A refusal leaves lent memory as found."
  pub ask_refused_as_found : (n at : ℕ) → r ≡ refused n at → room' ≡ room
  ask_refused_as_found n at e = let f = fault_is ask_answers n at e in rw f at p.left

  pub ask_allowed_answered : AskAllowed net m s room → (n at : ℕ) → r ≡ refused n at → ⊥
  ask_allowed_answered = is_answered ask_answers (of_ask_allowed net m s room)

  pub ask_answered_allowed : ((n at : ℕ) → r ≡ refused n at → ⊥) → AskAllowed net m s room
  ask_answered_allowed = is_allowed ask_answers (ask_allowed_of net m s room)
