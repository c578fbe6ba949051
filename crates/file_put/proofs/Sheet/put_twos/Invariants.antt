use lib.ListN.{take}
use Rattle.file_put.specs.Put.{twos}
use Rattle.file_put.specs.Sheet.{Spelled}
use Rattle.file_put.proofs.Sheet.put_twos.Given as goal

abbrev pub invariant-loop-n : goal.invariant-loop-n
invariant-loop-n l = Spelled l.initial.self (twos (take l.n-index l.numbers)) l.self
