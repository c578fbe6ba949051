use Rattle.net.specs.Lent.{lent}
use Rattle.file_put.specs.Sheet.{Written}
use Rattle.file_text.specs.Text.{row_line, joined}
use Rattle.file_out.proofs.put_rows.Given as goal

abbrev pub invariant-loop-t : goal.invariant-loop-t
invariant-loop-t l = Written l.initial.sheet (joined (row_line (lent l.sized.net)) l.t) l.sheet
