use Rattle.complement.proofs.Written.{counts}
use borrow.Author.Rules.{rules}
use Rattle.complement.proofs.count_made.Goals as goal
use Rattle.complement.proofs.count_made.Goals.{then-is_made, else-is_made}

pub loop-p-preserved : goal.loop-p-preserved
loop-p-preserved c = elim c.if-is_made.branch [ then-is_made w ↦ search (counts, rules) | else-is_made w ↦ search (counts, rules) ]

pub returns : goal.returns
returns c = search (counts, rules)
