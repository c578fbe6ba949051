use Prim.Native.Nat.{◌-◌}
use lib.ListN.{length}
use Rattle.file_line.specs.Read.{rooms}
use Rattle.file_parts.proofs.Buffer.{LentRead}
use Rattle.file_parts.proofs.read_part.Given as goal

abbrev pub invariant-loop-at : goal.invariant-loop-at
invariant-loop-at l = LentRead l.part l.initial.r (rooms l.initial.caps l.initial.marks l.initial.initial' l.initial.pre l.initial.post l.initial.word) l.at l.r (rooms l.caps l.marks l.initial' l.pre l.post l.word)

abbrev pub decreases-loop-at : goal.decreases-loop-at
decreases-loop-at l = length l.part - l.at
