use Rattle.ground.proofs.Fill.{fills}
use Rattle.summary_slots.proofs.Joins.{joins_end}
use borrow.Author.Rules.{rules}
use Rattle.summary_slots.proofs.join_slots.Goals as goal

pub loop-p-preserved : goal.loop-p-preserved
loop-p-preserved c = search (fills, rules)

pub returns : goal.returns
returns c = search (joins_end, rules)
