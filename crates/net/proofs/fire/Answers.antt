use Rattle.ground.proofs.Fill.{fills}
use Rattle.net.proofs.Letters.{fill_enough, fill_small}
use borrow.Author.Rules.{rules}
use Rattle.net.proofs.fire.Goals as goal

pub loop-p-init : goal.loop-p-init
loop-p-init c = search (fills, rules)

pub moved-requires : goal.moved-requires
moved-requires c = search (fill_enough, fill_small, rules)

pub loop-p-preserved : goal.loop-p-preserved
loop-p-preserved c = search (fills, rules)

pub returns : goal.returns
returns c = search (fills, rules)
