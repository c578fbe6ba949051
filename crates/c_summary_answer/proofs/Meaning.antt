-- What C is handed of a summary: one answer and one content of the lists; a summary that was written into lists is the summary that
-- they lend. Assumes nothing.
use mathlib.Core.Path.{◌≡◌, sym, ◌∙◌}
use lib.ListN.{length}
use Rattle.ground.specs.Limits.{count_limit}
use Rattle.summary_form.specs.declared.Summary.{Summary}
use Rattle.refusals.specs.Given.{Answer}
use Rattle.c_summary_lists.specs.Columns.{Columns, columns_from}
use Rattle.c_summary_lists.proofs.Columns.{read_written}
use Rattle.c_summary_answer.specs.Summaries.{HandedSummary, lent_summary}
use Rattle.c_summary_answer.specs.declared.SummaryAnswer.{SummaryAnswer}

pub unique_summary : (x : Answer Summary) (l : Columns) (r r' : SummaryAnswer) (m m' : Columns) → HandedSummary x l r m → HandedSummary x l r' m' → (r ≡ r') × (m ≡ m')
unique_summary x l r r' m m' a b = (a.answer ∙ sym b.answer, a.left ∙ sym b.left)

pub lent_written : (s : Summary) → length s.slots ≡ count_limit → lent_summary s.places s.letters (columns_from s.slots) ≡ s
lent_written s e = λ i. record { places = s.places; letters = s.letters; slots = read_written s.slots e i }
