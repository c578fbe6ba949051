-- To be believed: summaries for C. The place count and the letters stand in the answer, the slots in three lists of exactly 64 entries. A list of
-- another length is 2: "a lent list's or room's length disagrees with the counts", after 1 and before all others.
use Rattle.refusals.specs.Given.{Answer, Fault}
use Rattle.std.specs.Prelude.{Ok, Err}
use Rattle.std.specs.Prelude.{ℕ, ◌≡◌, Bool, not}
use Rattle.refusals.specs.Given.{refuse, or_else}
use Rattle.summary_form.specs.Summary.{made_numbers, or_empty}
use Rattle.summary_form.specs.declared.Summary.{Summary}
use Rattle.c_summary_lists.specs.Columns.{Columns, slots_from, columns_from}
use Rattle.c_answer.specs.Hand.{at}
use Rattle.c_summary_answer.specs.declared.SummaryAnswer.{SummaryAnswer}

-- the place count and the letters that come with an answer: a summary's own, and with a refusal those of the empty summary of no places
abbrev pub places_with : Answer Summary → ℕ
places_with x = (or_empty x).places

abbrev pub letters_with : Answer Summary → ℕ
letters_with x = (or_empty x).letters

-- a summary's answer: its numbers, its place count and its letters
unfoldable pub handed_summary : Answer Summary → SummaryAnswer
handed_summary x =
    record {
      kind = at 0 (made_numbers x);
      number = at 1 (made_numbers x);
      position = at 2 (made_numbers x);
      places = places_with x;
      letters = letters_with x;
    }

-- the lists hold the slots where a summary was made; "A refusal leaves lent memory as found."
abbrev pub left_by : Answer Summary → Columns → Columns
left_by (Ok s) lists = columns_from s.slots
left_by (Err r) lists = lists

-- a summary's answer x, handed to C as r and in the lists
pub record HandedSummary (x : Answer Summary) (lists : Columns) (r : SummaryAnswer) (lists' : Columns) : Type 0 where
  pub answer : r ≡ handed_summary x
  pub left : lists' ≡ left_by x lists

-- 1 for the place counts, then 2 for a list's length, then what the entry itself refuses
unfoldable pub list_fault : Bool → Bool → Fault → Fault
list_fault outsides fit next = or_else (refuse outsides 1 0) (or_else (refuse (not fit) 2 0) next)

-- the summary that C lends: a place count, a number of letters and three lists
abbrev pub lent_summary : ℕ → ℕ → Columns → Summary
lent_summary P n lists = record { places = P; letters = n; slots = slots_from lists }
