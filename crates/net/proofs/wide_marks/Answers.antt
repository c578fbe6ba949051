use Rattle.ground.proofs.Fill.{make_start, make_next}
use Rattle.net.proofs.Copies.{widened_end}
use borrow.Author.Rules.{rules}
use Rattle.net.proofs.wide_marks.Goals as goal

pub loop-p-init : goal.loop-p-init
loop-p-init c = search (make_start, rules)

pub loop-p-preserved : goal.loop-p-preserved
loop-p-preserved c = (search rules, make_next 0 _ _ _ _ _ c.loop-p.invariant.1 (search rules) c.from.ensures)

pub returns : goal.returns
returns c = search (widened_end, rules)
