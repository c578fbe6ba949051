use Prim.Native.Nat.{◌≤◌}
use mathlib.Core.Bool.{true}
use lib.ListN.{length}
use Rattle.ground.proofs.Scan.{found_none}
use Rattle.net.specs.Lent.{lent}
use Rattle.weighting_sums.specs.Tests.{lowest_entry}
use Rattle.weighting_bound.proofs.Answers.{weighed}
use borrow.Author.Rules.{rules}
use Rattle.weighting_bound.specs.Bound.{found_bound}
use Rattle.weighting_bound.proofs.find_bound.Goals as goal

pub returns : goal.returns
unfolding found_bound
returns c =
    let l : length c.args.y.now ≤ lowest_entry true c.args.y.now = search (found_none, rules) in
    let w = weighed (lent c.args.sized.now.net) c.args.initial.now c.args.y.now l c.requires.initial_len in search rules
