use Rattle.summary_place.proofs.Running.{Running}
use Rattle.net.specs.Lent.{lent}
use Rattle.summary_place.specs.Place.{letter_at}
use Rattle.summary_place.proofs.slot_of.Given as goal

abbrev pub invariant-loop-i : goal.invariant-loop-i
invariant-loop-i l = Running (letter_at (lent l.sized.net) l.p) l.word l.gained l.lost l.need l.climb l.i
