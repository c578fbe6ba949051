use Rattle.complement.proofs.Written.{chooses}
use borrow.Author.Rules.{rules}
use Rattle.complement.proofs.find_sources.Goals as goal
use Rattle.complement.proofs.find_sources.Goals.{then-is_made, else-is_made}

-- so that places written from elsewhere on are refused at the invariant
pub loop-p-init : goal.loop-p-init
loop-p-init c = search (chooses, rules)

pub bounds-sources-at : goal.bounds-sources-at
bounds-sources-at c = search (chooses, rules)

pub loop-p-preserved : goal.loop-p-preserved
loop-p-preserved c = elim c.if-is_made.branch [ then-is_made w ↦ search (chooses, rules) | else-is_made w ↦ search (chooses, rules) ]

pub returns : goal.returns
returns c = search (chooses, rules)
