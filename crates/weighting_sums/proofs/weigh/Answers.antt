use Rattle.weighting_sums.specs.Walk.{total}
use Rattle.weighting_sums.proofs.Shares.{weighs}
use borrow.Author.Rules.{rules}
use Rattle.weighting_sums.proofs.weigh.Goals as goal

pub loop-p-init : goal.loop-p-init
loop-p-init c = search (weighs, rules)

pub loop-p-preserved : goal.loop-p-preserved
unfolding total
loop-p-preserved c = search (weighs, rules)
