use mathlib.Core.Path.{◌≡◌}
use Rattle.ground.specs.Lists.{tally}
use Rattle.weights.specs.Heavy.{over_at}
use Rattle.file_row.specs.Row.{wide_row, takes_in, puts_in}
use Rattle.file_row.proofs.digits_over.Given as goal

abbrev pub invariant-loop-p : goal.invariant-loop-p
invariant-loop-p l = l.over ≡ tally (over_at l.limit (takes_in wide_row l.d l.places) (puts_in wide_row l.d l.places)) l.p
