use Prim.Native.Nat.{ℕ}
use mathlib.Core.Path.{ap, ◌∙◌}
use Rattle.ground.specs.Lists.{found}
use Rattle.net.specs.Lent.{lent}
use Rattle.weighting_sums.proofs.Nets.{columns_first}
use Rattle.weighting_sums.proofs.lowest_place.Goals as goal

pub returns : goal.returns
returns c = c.lowest_failing.ensures ∙ ap (λ (k : ℕ). found c.args.sized.now.net.places k) (columns_first (lent c.args.sized.now.net) c.args.x.now c.requires)
