use Rattle.ground.proofs.Scan.{tallies, tally_fits}
use Rattle.net.proofs.Letters.{small_at}
use borrow.Author.Rules.{rules}
use Rattle.net.proofs.may_fire.Goals as goal

pub loop-p-init : goal.loop-p-init
loop-p-init c = search (tallies, rules)

pub stops_at-stopped-requires : goal.stops_at-stopped-requires
stops_at-stopped-requires c = search (small_at, rules)

pub overflow_add-stopped : goal.overflow_add-stopped
overflow_add-stopped c = search (tally_fits, rules)

pub loop-p-preserved : goal.loop-p-preserved
loop-p-preserved c = search (tallies, rules)

pub returns : goal.returns
returns c = search (tallies, rules)
