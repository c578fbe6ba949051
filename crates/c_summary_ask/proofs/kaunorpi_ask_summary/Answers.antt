use mathlib.Core.Path.{sym, ◌∙◌}
use Rattle.net.specs.Net.{net_of}
use Rattle.c_summary_lists.specs.Columns.{columns_of}
use Rattle.c_summary_ask.proofs.Asked.{ask_handed, ask_unfit}
use Rattle.c_summary_ask.proofs.kaunorpi_ask_summary.Goals as goal

pub returns-then-is_fitting : goal.returns-then-is_fitting
returns-then-is_fitting c =
    let a = c.args in
    ask_handed (net_of a.places a.transitions a.pre.now a.post.now a.caps.now a.marks.now) a.marking.now a.count a.letters
    (columns_of a.need.now a.climb.now a.change.now) a.room.now _ _ _ _ (sym c.is_fitting.ensures ∙ c.if-is_fitting.true)
    c.lent_summary-summary.ensures c.ask_summary-answer.ensures c.of_asked.ensures

pub returns : goal.returns
returns c =
    let a = c.args in
    rw (c.of_asked-2.ensures, c.refuse_asked.ensures)
    (ask_unfit (net_of a.places a.transitions a.pre.now a.post.now a.caps.now a.marks.now) a.marking.now a.count a.letters
    (columns_of a.need.now a.climb.now a.change.now) a.room.now (sym c.is_fitting.ensures ∙ c.if-is_fitting.false))
