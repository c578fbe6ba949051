use lib.ListN.{length}
use Rattle.complement.specs.Walk.{tokens_row}
use Rattle.complement.proofs.Written.{Copying}
use Rattle.complement.proofs.write_tokens.Given as goal

abbrev pub invariant-loop-q : goal.invariant-loop-q
invariant-loop-q l = Copying (tokens_row (length l.caps) l.caps l.initial' l.sources) l.initial.room 0 l.q l.room
