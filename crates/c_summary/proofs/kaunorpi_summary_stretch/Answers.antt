use mathlib.Core.Path.{sym, ◌∙◌}
use Rattle.net.specs.Net.{net_of}
use Rattle.refusals.specs.Given.{stretch, inside}
use Rattle.c_summary_lists.specs.Columns.{columns_of}
use Rattle.c_summary.proofs.Summaries.{word_handed, word_unfit}
use Rattle.c_summary.proofs.kaunorpi_summary_stretch.Goals as goal

pub returns-then-is_fitting : goal.returns-then-is_fitting
returns-then-is_fitting c =
    let a = c.args in
    word_handed (net_of a.places a.transitions a.pre.now a.post.now a.caps.now a.marks.now) (stretch a.word.now a.start a.end) (inside a.word.now a.start a.end)
    (columns_of a.need.now a.climb.now a.change.now) _ _ _ (sym c.is_fitting.ensures ∙ c.if-is_fitting.true)
    c.summary_stretch-made.ensures c.hand_summed.ensures

pub returns : goal.returns
returns c =
    let a = c.args in
    word_unfit (net_of a.places a.transitions a.pre.now a.post.now a.caps.now a.marks.now) (stretch a.word.now a.start a.end) a.word.now
    (inside a.word.now a.start a.end) (columns_of a.need.now a.climb.now a.change.now) _ _ (sym c.is_fitting.ensures ∙ c.if-is_fitting.false)
    c.summary_stretch-none.ensures c.of_summed.ensures
