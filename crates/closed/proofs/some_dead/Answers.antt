use Rattle.ground.proofs.Scan.{scan_next}
use Rattle.lists.proofs.Somes.{somes}
use borrow.Author.Rules.{rules}
use Rattle.closed.proofs.some_dead.Goals as goal

pub returns-then-is_dead : goal.returns-then-is_dead
returns-then-is_dead c = search (somes, rules)

pub returns : goal.returns
returns c = search (somes, rules)

pub loop-k-preserved : goal.loop-k-preserved
loop-k-preserved c = scan_next _ _ _ c.loop-k.invariant c.is_dead.ensures c.if-is_dead.false
