use mathlib.Core.Path.{ap, ◌∙◌}
use Rattle.ground.specs.Lists.{table}
use Rattle.ground.proofs.Fill.{makes, make_end}
use borrow.Author.Rules.{rules}
use Rattle.summary_asked.proofs.write_end.Goals as goal

pub loop-p-preserved : goal.loop-p-preserved
loop-p-preserved c = search (makes, rules)

pub returns : goal.returns
returns c = make_end 0 _ _ _ _ c.loop-p.invariant (search rules) ∙ ap (table _) c.requires.room_len
