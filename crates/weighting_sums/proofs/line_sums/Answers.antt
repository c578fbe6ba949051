use Rattle.weighting_sums.specs.Walk.{total}
use Rattle.weighting_sums.proofs.Shares.{line_sums}
use borrow.Author.Rules.{rules}
use Rattle.weighting_sums.proofs.line_sums.Goals as goal

pub loop-k-init : goal.loop-k-init
loop-k-init c = search (line_sums, rules)

pub loop-k-preserved : goal.loop-k-preserved
unfolding total
loop-k-preserved c = search (line_sums, rules)

pub returns : goal.returns
returns c = search (line_sums, rules)
