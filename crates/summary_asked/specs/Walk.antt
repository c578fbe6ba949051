-- Only for the code's walk, no answer is made of it: that a marking has what the slots need.
use Rattle.std.specs.Prelude.{ℕ, ◌≤◌, ◌<◌, List, length, get_or}
use Rattle.summary_place.specs.Slots.{nil}
use Rattle.summary_place.specs.declared.Slot.{Slot}

-- every place has what its slot needs
pub record NeedsMet (slots : List Slot) (m : List ℕ) : Type 0 where
  pub at : (p : ℕ) → p < length m → (get_or slots p nil).need ≤ get_or m p 0
