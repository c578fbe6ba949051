use mathlib.Core.Path.{sym, ◌∙◌}
use Rattle.c_summary_answer.specs.Summaries.{list_fault}
use Rattle.c_summary_answer.proofs.refuse_lists.Goals as goal
use Rattle.c_summary_answer.proofs.refuse_lists.Goals.{then-are_outside, else-are_outside}

pub returns : goal.returns
unfolding list_fault
returns c =
    elim c.if-are_outside.branch [
      | then-are_outside w ↦ rw (sym c.are_outside.ensures ∙ w.if-are_outside.true) (rw w.number-is at c.of_summed.ensures)
      | else-are_outside w ↦ rw (sym c.are_outside.ensures ∙ w.if-are_outside.false) (rw w.number-is at c.of_summed.ensures)
    ]
