use Rattle.net.specs.Lent.{lent}
use Rattle.plays.proofs.Words.{Running}
use Rattle.plays.proofs.play_letters.Given as goal

abbrev pub invariant-loop-i : goal.invariant-loop-i
invariant-loop-i l = Running (lent l.net) l.fired l.initial.marking l.word l.i l.marking
