use mathlib.Core.Path.{◌≡◌}
use lib.ListN.{get_or}
use Rattle.ground.specs.Lists.{tally}
use Rattle.refusals.specs.Given.{unlike}
use Rattle.list_index.proofs.is_same.Given as goal

abbrev pub invariant-loop-p : goal.invariant-loop-p
invariant-loop-p l = l.differing ≡ tally (λ p. unlike (get_or l.listed p 0) (get_or l.marking p 0)) l.p
