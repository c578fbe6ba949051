use Rattle.ground.proofs.Fill.{fill_next}
use Rattle.net.specs.Lent.{lent}
use Rattle.summary_place.specs.Place.{letter_at}
use Rattle.summary_place.specs.Slots.{nil, slot_of}
use Rattle.summary_place.proofs.Running.{slots_end}
use borrow.Author.Rules.{rules}
use Rattle.summary_place.proofs.word_slots.Goals as goal

pub loop-p-preserved : goal.loop-p-preserved
loop-p-preserved c =
    fill_next nil (λ k x. slot_of (letter_at (lent c.args.sized.now.net) k) c.args.word.now) c.no_slots-slots.result
    c.loop-p.p c.loop-p.slots _ c.loop-p.invariant (search rules) c.slot_of.ensures

pub returns : goal.returns
returns c = search (slots_end, rules)
