use Rattle.ground.proofs.Scan.{tally_start, tally_next, tally_fits}
use Rattle.list_index.proofs.Wholly.{whole_end}
use borrow.Author.Rules.{rules}
use Rattle.list_index.proofs.is_same.Goals as goal

pub loop-p-init : goal.loop-p-init
loop-p-init c = search (tally_start, rules)

pub overflow_add-differing : goal.overflow_add-differing
overflow_add-differing c = search (tally_fits, rules)

pub loop-p-preserved : goal.loop-p-preserved
loop-p-preserved c = search (tally_next, rules)

pub returns : goal.returns
returns c = search (whole_end, rules)
