-- To be believed: the empty summary for C; a word's needs no definition of its own.
use Rattle.std.specs.Prelude.{ℕ, Bool, Ok}
use Rattle.refusals.specs.Given.{Answer, or_else, outside}
use Rattle.summary_form.specs.Summary.{empty_summary}
use Rattle.summary_form.specs.declared.Summary.{Summary}
use Rattle.c_summary_answer.specs.Summaries.{list_fault}

-- the empty summary into lists
abbrev pub empty_for : ℕ → Bool → Answer Summary
empty_for P fit = or_else (list_fault (outside P) fit (Ok tt)) (Ok (empty_summary P))
