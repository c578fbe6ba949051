use Rattle.ground.proofs.Fill.{Filled}
use Rattle.net.specs.Lent.{lent}
use Rattle.summary_place.specs.Place.{letter_at}
use Rattle.summary_place.specs.Slots.{nil, slot_of}
use Rattle.summary_place.proofs.word_slots.Given as goal

abbrev pub invariant-loop-p : goal.invariant-loop-p
invariant-loop-p l = Filled nil (λ k x. slot_of (letter_at (lent l.sized.net) k) l.word) l.initial.slots l.p l.slots
