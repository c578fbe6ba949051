use native.Mathlib.Omega.{arith}
use Rattle.ground.proofs.Scan.{tally_start, tally_next}
use Rattle.net.specs.Lent.{lent}
use Rattle.file_out.specs.Length.{wide_at}
use Rattle.file_out.proofs.Length.{wide_fits, wide_told}
use Rattle.file_out.proofs.wide_rows.Goals as goal

pub loop-row-init : goal.loop-row-init
loop-row-init c = tally_start _

pub overflow_add-wide : goal.overflow_add-wide
overflow_add-wide c = omega (arith, wide_fits (lent c.args.sized.now.net) c.args.sized.now.sized c.loop-row.row _ _ c.loop-row.invariant (rw (c.takes.ensures, c.puts.ensures) at c.wide_row-wide.ensures) c.loop-row-test.true)

pub loop-row-preserved : goal.loop-row-preserved
loop-row-preserved c = tally_next (wide_at (lent c.args.sized.now.net)) _ _ _ c.loop-row.invariant (rw (c.takes.ensures, c.puts.ensures) at c.wide_row-wide.ensures)

pub returns : goal.returns
returns c = wide_told _ _ _ c.loop-row.auto.row-end c.loop-row-test.false c.loop-row.invariant
