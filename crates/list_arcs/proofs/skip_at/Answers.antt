use Rattle.ground.proofs.Scan.{scans}
use borrow.Author.Rules.{rules}
use Rattle.list_arcs.proofs.skip_at.Goals as goal

pub returns-then-has_arc : goal.returns-then-has_arc
returns-then-has_arc c = search (scans, rules)

pub returns : goal.returns
returns c = search (scans, rules)
