use mathlib.Core.Path.{◌≡◌}
use Rattle.ground.specs.Lists.{tally}
use Rattle.net.specs.Lent.{lent}
use Rattle.file_out.specs.Length.{wide_at}
use Rattle.file_out.proofs.wide_rows.Given as goal

abbrev pub invariant-loop-row : goal.invariant-loop-row
invariant-loop-row l = l.wide ≡ tally (wide_at (lent l.sized.net)) l.row
