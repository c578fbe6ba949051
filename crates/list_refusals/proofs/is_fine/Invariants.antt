use mathlib.Core.Path.{◌≡◌}
use lib.ListN.{get_or}
use Rattle.ground.specs.Lists.{tally}
use Rattle.refusals.specs.Given.{token_bad}
use Rattle.list_refusals.proofs.is_fine.Given as goal

abbrev pub invariant-loop-p : goal.invariant-loop-p
invariant-loop-p l = l.bad ≡ tally (λ p. token_bad (get_or l.caps p 0) (get_or l.marking p 0)) l.p
