use Rattle.file_line.proofs.Turns.{Looking}
use Rattle.file_line.proofs.bad_token.Given as goal

abbrev pub invariant-loop-p : goal.invariant-loop-p
invariant-loop-p l = Looking l.d l.caps l.places l.p
