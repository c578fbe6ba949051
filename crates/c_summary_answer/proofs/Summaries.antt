-- Where a list has another length than 64, and a summary that C lends. Assumes nothing.
use Rattle.std.specs.Prelude.{Ok}
use Rattle.refusals.specs.Given.{Fault, or_else}
use mathlib.Core.Path.{◌≡◌, refl}
use mathlib.Core.Bool.{Bool, true, false}
use Rattle.summary_form.specs.Summary.{empty_summary}
use Rattle.summary_form.specs.declared.Summary.{Summary}
use Rattle.c_summary_lists.specs.Columns.{Columns}
use Rattle.c_summary_answer.specs.Summaries.{handed_summary, HandedSummary, list_fault}
use Rattle.c_summary_answer.specs.declared.SummaryAnswer.{SummaryAnswer}

pub unfit_handed : (b : Bool) (next : Fault) (s : Summary) (lists : Columns) (r : SummaryAnswer) → r ≡ handed_summary (or_else (list_fault b false (Ok tt)) (Ok (empty_summary 0))) → HandedSummary (or_else (list_fault b false next) (Ok s)) lists r lists
unfolding list_fault
unfit_handed true next s lists r h = record { answer = h; left = refl }
unfit_handed false next s lists r h = record { answer = h; left = refl }
