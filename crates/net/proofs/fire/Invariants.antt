use Rattle.net.specs.Letter.{after}
use Rattle.ground.proofs.Fill.{Filled}
use Rattle.net.proofs.fire.Given as goal

abbrev pub invariant-loop-p : goal.invariant-loop-p
invariant-loop-p l = Filled 0 (after l.takes l.puts) l.initial.marking l.p l.marking
