use Rattle.sets.proofs.Touches.{touching}
use borrow.Author.Rules.{rules}
use Rattle.sets.proofs.is_touching.Goals as goal

pub returns-then-is_meeting : goal.returns-then-is_meeting
returns-then-is_meeting c = search (touching, rules)

pub returns : goal.returns
returns c = search (touching, rules)
