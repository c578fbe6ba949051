-- Summaries for C: what the entry answers is handed over where the lists have 64 entries, else 1 or 2. Assumes nothing.
use Rattle.std.specs.Prelude.{Ok, Err}
use Rattle.refusals.specs.Given.{Answer, Fault}
use Prim.Native.Nat.{ℕ}
use mathlib.Core.Path.{◌≡◌, refl, sym, ap, ◌∙◌, subst}
use mathlib.Core.Bool.{Bool, true, false, ◌&&◌, ◌||◌, and-false}
use mathlib.Core.List.{List}
use Rattle.ground.proofs.Tests.{never}
use Rattle.net.specs.Net.{Net}
use Rattle.refusals.specs.Given.{refuse, or_else, outside, counts_fault, stretch, inside}
use Rattle.refusals.proofs.Refusals.{counts_met}
use Rattle.summary_form.specs.Summary.{empty_summary, summary_of}
use Rattle.summary.specs.Entry.{empty_answer, word_answer}
use Rattle.summary_form.specs.declared.Summary.{Summary}
use Rattle.summary.proofs.Answers.{unfit_part}
use Rattle.c_summary_lists.specs.Columns.{Columns, fits}
use Rattle.c_summary_answer.specs.Summaries.{handed_summary, HandedSummary, list_fault}
use Rattle.c_summary.specs.Summaries.{empty_for}
use Rattle.c_summary_answer.specs.declared.SummaryAnswer.{SummaryAnswer}
use Rattle.c_summary_answer.proofs.Summaries.{unfit_handed}

or_self : (b : Bool) → (b || b) ≡ b
or_self true = refl
or_self false = refl

-- ---- the empty summary
empty_same : (P : ℕ) (b : Bool) → or_else (list_fault b true (Ok tt)) (Ok (empty_summary P)) ≡ or_else (refuse b 1 0) (Ok (empty_summary P))
unfolding list_fault
empty_same P true = refl
empty_same P false = refl

module _ (P : ℕ) (lists : Columns) (r : SummaryAnswer) where
  pub empty_handed : (lists' : Columns) (made : Answer Summary) → fits lists ≡ true → made ≡ empty_answer P → HandedSummary made lists r lists' → HandedSummary (empty_for P (fits lists)) lists r lists'
  empty_handed lists' made q a h = rw q (subst (λ x. HandedSummary x lists r lists') (a ∙ sym (empty_same P (outside P))) h)

  pub empty_unfit : fits lists ≡ false → r ≡ handed_summary (or_else (list_fault (outside P || outside P) false (Ok tt)) (Ok (empty_summary 0))) → HandedSummary (empty_for P (fits lists)) lists r lists
  empty_unfit q h =
      rw q
      (unfit_handed (outside P) (Ok tt) (empty_summary P) lists r
      (h ∙ ap (λ b. handed_summary (or_else (list_fault b false (Ok tt)) (Ok (empty_summary 0)))) (or_self (outside P))))

-- ---- the summary of a word
unfit_sums : (net : Net) (s s' : Summary) (lists : Columns) (r : SummaryAnswer) (f : Fault) → counts_fault net false ≡ f → r ≡ handed_summary (or_else f (Ok s)) → HandedSummary (or_else f (Ok s')) lists r lists
unfit_sums net s s' lists r (Ok _) q h = never (sym (counts_met net false q).fitting)
unfit_sums net s s' lists r (Err z) q h = record { answer = h; left = refl }

unfit_word : (net : Net) (u w : List ℕ) (lists : Columns) (r : SummaryAnswer) (none : Answer Summary) → none ≡ word_answer net u false → r ≡ handed_summary none → HandedSummary (word_answer net w false) lists r lists
unfit_word net u w lists r none a h =
    subst (λ f. HandedSummary (or_else f (Ok (summary_of net w))) lists r lists) (sym (unfit_part net w))
    (unfit_sums net (summary_of net u) (summary_of net w) lists r (counts_fault net false) refl
    (h ∙ ap handed_summary (a ∙ ap (λ f. or_else f (Ok (summary_of net u))) (unfit_part net u))))

and_yes : (b : Bool) → (b && true) ≡ b
and_yes true = refl
and_yes false = refl

-- `within` tells whether the word is a stretch inside another
pub word_handed : (net : Net) (w : List ℕ) (within : Bool) (lists : Columns) (r : SummaryAnswer) (lists' : Columns) (made : Answer Summary) → fits lists ≡ true → made ≡ word_answer net w within → HandedSummary made lists r lists' → HandedSummary (word_answer net w (within && fits lists)) lists r lists'
word_handed net w within lists r lists' made q a h = rw (q, and_yes within) (subst (λ x. HandedSummary x lists r lists') a h)

-- the stretch that is asked for where the lists do not fit is none
pub word_unfit : (net : Net) (w v : List ℕ) (within : Bool) (lists : Columns) (r : SummaryAnswer) (none : Answer Summary) → fits lists ≡ false → none ≡ word_answer net (stretch v 1 0) (inside v 1 0) → r ≡ handed_summary none → HandedSummary (word_answer net w (within && fits lists)) lists r lists
word_unfit net w v within lists r none q a h = rw (q, and-false within) (unfit_word net (stretch v 1 0) w lists r none a h)
