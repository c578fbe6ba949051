use lib.ListN.{take}
use Rattle.file_put.specs.Sheet.{Spelled}
use Rattle.file_put.proofs.Sheet.put_bytes.Given as goal

abbrev pub invariant-loop-b : goal.invariant-loop-b
invariant-loop-b l = Spelled l.initial.self (take l.b-index l.bytes) l.self
