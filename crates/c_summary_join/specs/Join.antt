-- To be believed: two summaries that C lends, joined. A list of another length than 64 is 2, after 1 and before all others.
use Rattle.std.specs.Prelude.{ℕ, ◌&&◌, ◌||◌, Ok}
use Rattle.refusals.specs.Given.{Answer, or_else, outside}
use Rattle.summary_form.specs.declared.Summary.{Summary}
use Rattle.summary_join.specs.Join.{join_fault, join_summary}
use Rattle.c_summary_lists.specs.Columns.{Columns, fits}
use Rattle.c_summary_answer.specs.Summaries.{list_fault, lent_summary}

-- two lent summaries joined, into lists
abbrev pub join_for : ℕ → ℕ → Columns → ℕ → ℕ → Columns → Columns → Answer Summary
join_for P n a Q k b lists =
    or_else (list_fault (outside P || outside Q) (fits a && (fits b && fits lists)) (join_fault (lent_summary P n a) (lent_summary Q k b)))
    (Ok (join_summary (lent_summary P n a) (lent_summary Q k b)))
