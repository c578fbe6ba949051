use mathlib.Core.Path.{sym, ◌∙◌}
use Rattle.c_summary_lists.specs.Columns.{columns_of}
use Rattle.c_summary.proofs.Summaries.{empty_handed, empty_unfit}
use Rattle.c_summary.proofs.kaunorpi_empty_summary.Goals as goal

pub returns-then-is_fitting : goal.returns-then-is_fitting
returns-then-is_fitting c =
    empty_handed c.args.places (columns_of c.args.need.now c.args.climb.now c.args.change.now) _ _ _ (sym c.is_fitting.ensures ∙ c.if-is_fitting.true)
    c.empty_summary-made.ensures c.hand_summed.ensures

pub returns : goal.returns
returns c =
    empty_unfit c.args.places (columns_of c.args.need.now c.args.climb.now c.args.change.now) _ (sym c.is_fitting.ensures ∙ c.if-is_fitting.false)
    c.refuse_lists.ensures
