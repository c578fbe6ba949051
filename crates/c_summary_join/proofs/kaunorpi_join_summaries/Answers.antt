use mathlib.Core.Path.{sym, ap₂, ◌∙◌}
use Rattle.summary_join.specs.Join.{join_answer}
use Rattle.c_summary_lists.specs.Columns.{columns_of}
use Rattle.c_summary_join.proofs.Joined.{join_handed, join_unfit}
use Rattle.c_summary_join.proofs.kaunorpi_join_summaries.Goals as goal

pub returns-then-join_fits : goal.returns-then-join_fits
returns-then-join_fits c =
    let a = c.args in
    join_handed a.places1 a.letters1 (columns_of a.need1.now a.climb1.now a.change1.now) a.places2 a.letters2
    (columns_of a.need2.now a.climb2.now a.change2.now) (columns_of a.need.now a.climb.now a.change.now) _ _ _
    (sym c.join_fits.ensures ∙ c.if-join_fits.true)
    (c.join_summaries-made.ensures ∙ ap₂ join_answer c.lent_summary-a.ensures c.lent_summary-b.ensures)
    c.hand_summed.ensures

pub returns : goal.returns
returns c =
    let a = c.args in
    join_unfit a.places1 a.letters1 (columns_of a.need1.now a.climb1.now a.change1.now) a.places2 a.letters2
    (columns_of a.need2.now a.climb2.now a.change2.now) (columns_of a.need.now a.climb.now a.change.now) _
    (sym c.join_fits.ensures ∙ c.if-join_fits.false) c.refuse_lists.ensures
