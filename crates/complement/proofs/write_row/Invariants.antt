use lib.ListN.{length}
use Rattle.complement.specs.Walk.{taken_row, put_row}
use Rattle.complement.proofs.Written.{Copying}
use Rattle.complement.proofs.write_row.Given as goal

abbrev pub invariant-loop-q : goal.invariant-loop-q
invariant-loop-q l = Copying (taken_row (length l.puts) l.takes l.puts l.marks l.sources) l.initial.pre2 l.to l.q l.pre2 × Copying (put_row (length l.puts) l.takes l.puts l.marks l.sources) l.initial.post2 l.to l.q l.post2
