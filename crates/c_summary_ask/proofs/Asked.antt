-- A summary asked, for C: what the entry answers is handed over where the lists have 64 entries, else 1 or 2. Assumes nothing.
use Rattle.refusals.specs.Given.{Answer as Given}
use Rattle.std.specs.Prelude.{Ok, Err}
use Rattle.refusals.specs.Given.{Fault}
use Prim.Native.Nat.{ℕ}
use mathlib.Core.Path.{◌≡◌, refl, sym, ap, ◌∙◌, subst}
use mathlib.Core.Bool.{Bool, true, false, and-false, ◌&&◌}
use mathlib.Core.List.{List}
use lib.ListN.{length}
use lib.Dec.{eqb}
use Rattle.ground.proofs.Tests.{never}
use Rattle.net.specs.Net.{Net}
use Rattle.refusals.specs.Given.{refuse, or_else, outside, counts_fault}
use Rattle.refusals.proofs.Refusals.{counts_met, counts_unfit, marked_unfit}
use Rattle.summary_form.specs.Summary.{shape_fault}
use Rattle.summary_ask.specs.Ask.{Reply, ask_fault, slots_reply, replied, asked_numbers, Replied}
use Rattle.summary_form.specs.declared.Summary.{Summary}
use Rattle.summary_ask.specs.declared.Asked.{Asked}
use Rattle.summary_ask.specs.declared.Asked.TheVariants.{Yes, No}
use Rattle.c_summary_lists.specs.Columns.{Columns, fits, slots_from}
use Rattle.c_answer.specs.Hand.{at, handed}
use Rattle.c_summary_answer.specs.Summaries.{lent_summary}
use Rattle.c_summary_ask.specs.Ask.{ask_for, HandedReply}
use Rattle.c_answer.specs.declared.Answer.{Answer}

and_yes : (b : Bool) → (b && true) ≡ b
and_yes true = refl
and_yes false = refl

ask_fault_lem : (net : Net) (m : List ℕ) (s : Summary) → ask_fault net m s false ≡ or_else (refuse (outside s.places) 1 0) (counts_fault net false)
unfolding ask_fault
ask_fault_lem net m s =
    ap (or_else (refuse (outside s.places) 1 0)) (ap (λ f. or_else f (shape_fault s)) (marked_unfit net m) ∙ counts_unfit net (shape_fault s))

-- there always is a fault of the lists' lengths
unfit_ask : (net : Net) (b : Bool) (reply : Reply) (room : List ℕ) (f : Fault) → counts_fault net false ≡ f → HandedReply (replied (or_else (refuse b 1 0) f) reply room) (handed (asked_numbers (or_else (refuse b 1 0) (or_else f (Ok No))))) room
unfit_ask net true reply room f q = record { answer = refl; left = refl }
unfit_ask net false reply room (Ok _) q = never (sym (counts_met net false q).fitting)
unfit_ask net false reply room (Err z) q = record { answer = refl; left = refl }

module _ (net : Net) (m : List ℕ) (P n : ℕ) (lists : Columns) (room : List ℕ) where
  pub ask_handed : (r : Answer) (s : Summary) (a : Given Asked) (room' : List ℕ) → fits lists ≡ true → s ≡ lent_summary P n lists → Replied net m s room a room' → r ≡ handed (asked_numbers a) → HandedReply (ask_for net m P n lists room) r room'
  ask_handed r s a room' q i p h =
      let k = subst (λ s. Replied net m s room a room') i p in
      rw (q, and_yes (eqb (length room) net.places)) (record { answer = h ∙ ap handed k.answer; left = k.left })

  pub ask_unfit : fits lists ≡ false → HandedReply (ask_for net m P n lists room) (handed (asked_numbers (or_else (refuse (outside P) 1 0) (or_else (counts_fault net false) (Ok No))))) room
  ask_unfit q =
      rw (q, and-false (eqb (length room) net.places), ask_fault_lem net m (lent_summary P n lists))
      (unfit_ask net (outside P) (slots_reply (slots_from lists) net.caps m room) room (counts_fault net false) refl)

-- an answer that is no refusal, by its number
pub said_handed : (a : Asked) (n : ℕ) → n ≡ at 1 (asked_numbers (Ok a)) → ◌≡◌ {A = Answer} (record { kind = 0x81; number = n; position = 0 }) (handed (asked_numbers (Ok a)))
unfolding handed
said_handed Yes n e = rw e
said_handed No n e = rw e
