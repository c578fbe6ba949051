use lib.ListN.{take}
use Rattle.file_put.specs.Sheet.{Spelled}
use Rattle.file_row.proofs.put_narrow.Given as goal

abbrev pub invariant-loop-weight : goal.invariant-loop-weight
invariant-loop-weight l = Spelled l.initial.sheet (take l.weight-index l.list) l.sheet
