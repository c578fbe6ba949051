use Rattle.net.specs.Lent.{lent}
use Rattle.file_text.specs.Text.{row_line}
use Rattle.file_out.proofs.Joined.{lines_none, lines_next, row_room}
use Rattle.file_out.proofs.put_rows.Goals as goal

pub loop-t-init : goal.loop-t-init
loop-t-init c = lines_none _ _

pub put_row-requires : goal.put_row-requires
put_row-requires c = rw (c.takes.ensures, c.puts.ensures) (row_room (lent c.args.sized.now.net) c.args.sized.now.sized c.loop-t.t c.loop-t-test.true _ _ c.requires c.loop-t.invariant)

pub loop-t-preserved : goal.loop-t-preserved
loop-t-preserved c = lines_next (row_line (lent c.args.sized.now.net)) _ c.loop-t.invariant (rw (c.takes.ensures, c.puts.ensures) at c.put_row.ensures)
