use Rattle.ground.proofs.Fill.{makes}
use borrow.Author.Rules.{rules}
use Rattle.c_summary_lists.specs.Columns.{columns_of}
use Rattle.c_summary_lists.proofs.Columns.{fit_long, made_end}
use Rattle.c_summary_lists.proofs.write_slots.Goals as goal

pub loop-p-preserved : goal.loop-p-preserved
loop-p-preserved c =
    (search (makes, rules), (search (makes, rules), search (makes, rules)))

pub returns : goal.returns
returns c =
    let l = fit_long (columns_of c.args.need.now c.args.climb.now c.args.change.now) c.requires in
    let i = c.loop-p.invariant in
    let h = c.loop-p-test.false in
    rw (made_end _ _ _ _ _ i.0 l.0 h, made_end _ _ _ _ _ i.1.0 l.1.0 h, made_end _ _ _ _ _ i.1.1 l.1.1 h)
