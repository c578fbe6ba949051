-- Only for the code's walk, no answer is made of it: what the inner function promises that asks the slots and is lent the room.
use Rattle.std.specs.Prelude.{ℕ, ◌≡◌, List}
use Rattle.refusals.specs.Given.{Answer}
use Rattle.summary_place.specs.declared.Slot.{Slot}
use Rattle.summary_ask.specs.Ask.{slots_reply}
use Rattle.summary_ask.specs.declared.Asked.{Asked}

-- the slots were asked
pub record SlotsAsked (slots : List Slot) (caps m room : List ℕ) (r : Answer Asked) (room' : List ℕ) : Type 0 where
  pub answer : r ≡ (slots_reply slots caps m room).answer
  pub left : room' ≡ (slots_reply slots caps m room).left
