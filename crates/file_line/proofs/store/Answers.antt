use mathlib.Core.Path.{sym, ◌∙◌}
use Rattle.file_line.specs.Read.{stored_kind}
use Rattle.file_line.proofs.Accept.{stored_row}
use Rattle.file_line.proofs.store.Goals as goal

pub returns-in-4 : goal.returns-in-4
returns-in-4 c = stored_row _ _ _ _ _ _ c.byte_at-kind.ensures c.in-4.is c.store_row.ensures.pre c.store_row.ensures.post

pub returns-in-5 : goal.returns-in-5
unfolding stored_kind
returns-in-5 c = simp (sym c.byte_at-kind.ensures ∙ c.in-5.is, c.store_bytes.ensures)
