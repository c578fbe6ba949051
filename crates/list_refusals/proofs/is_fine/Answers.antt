use Rattle.ground.proofs.Scan.{tallies, tally_fits}
use borrow.Author.Rules.{rules}
use Rattle.list_refusals.proofs.is_fine.Goals as goal

pub loop-p-init : goal.loop-p-init
loop-p-init c = search (tallies, rules)

pub overflow_add-bad : goal.overflow_add-bad
overflow_add-bad c = search (tally_fits, rules)

pub loop-p-preserved : goal.loop-p-preserved
loop-p-preserved c = search (tallies, rules)

pub returns : goal.returns
returns c = search (tallies, rules)
