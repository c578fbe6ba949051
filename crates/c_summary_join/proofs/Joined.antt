-- Summaries joined, for C: what the entry answers is handed over where the nine lists have 64 entries, else 1 or 2. Assumes nothing.
use Rattle.std.specs.Prelude.{Ok}
use Rattle.refusals.specs.Given.{Answer, Fault}
use Prim.Native.Nat.{ℕ}
use mathlib.Core.Path.{◌≡◌, refl, subst}
use mathlib.Core.Bool.{Bool, true, false, ◌&&◌, ◌||◌}
use Rattle.refusals.specs.Given.{refuse, or_else, outside}
use Rattle.summary_form.specs.Summary.{empty_summary}
use Rattle.summary_join.specs.Join.{join_fault, join_summary, join_answer}
use Rattle.summary_form.specs.declared.Summary.{Summary}
use Rattle.c_summary_lists.specs.Columns.{Columns, fits}
use Rattle.c_summary_answer.specs.Summaries.{handed_summary, HandedSummary, list_fault, lent_summary}
use Rattle.c_summary_join.specs.Join.{join_for}
use Rattle.c_summary_answer.specs.declared.SummaryAnswer.{SummaryAnswer}
use Rattle.c_summary_answer.proofs.Summaries.{unfit_handed}

twice : (b : Bool) (next : Fault) → or_else (refuse b 1 0) (or_else (refuse b 1 0) next) ≡ or_else (refuse b 1 0) next
twice true next = refl
twice false next = refl

join_same : (a b : Summary) → list_fault (outside a.places || outside b.places) true (join_fault a b) ≡ join_fault a b
unfolding list_fault join_fault
join_same a b = twice (outside a.places || outside b.places) _

module _ (P n : ℕ) (A : Columns) (Q k : ℕ) (B lists : Columns) (r : SummaryAnswer) where
  pub join_handed : (lists' : Columns) (made : Answer Summary) → (fits A && (fits B && fits lists)) ≡ true → made ≡ join_answer (lent_summary P n A) (lent_summary Q k B) → HandedSummary made lists r lists' → HandedSummary (join_for P n A Q k B lists) lists r lists'
  join_handed lists' made q h m =
      rw (q, join_same (lent_summary P n A) (lent_summary Q k B)) (subst (λ z. HandedSummary z lists r lists') h m)

  pub join_unfit : (fits A && (fits B && fits lists)) ≡ false → r ≡ handed_summary (or_else (list_fault (outside P || outside Q) false (Ok tt)) (Ok (empty_summary 0))) → HandedSummary (join_for P n A Q k B lists) lists r lists
  join_unfit q h =
      rw q (unfit_handed (outside P || outside Q) (join_fault (lent_summary P n A) (lent_summary Q k B)) (join_summary (lent_summary P n A) (lent_summary Q k B)) lists r h)
