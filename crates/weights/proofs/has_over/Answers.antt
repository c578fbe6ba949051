use Rattle.ground.proofs.Scan.{tallies, tally_fits}
use Rattle.weights.proofs.Heavies.{row_told}
use borrow.Author.Rules.{rules}
use Rattle.weights.proofs.has_over.Goals as goal

pub loop-p-init : goal.loop-p-init
loop-p-init c = search (tallies, rules)

pub overflow_add-over : goal.overflow_add-over
overflow_add-over c = search (tally_fits, rules)

pub loop-p-preserved : goal.loop-p-preserved
loop-p-preserved c = search (tallies, rules)

pub returns : goal.returns
returns c = search (row_told, rules)
