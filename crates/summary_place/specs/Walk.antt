-- Only for the code's walk, no answer is made of it: the form in which numbers are computed, and bounds that keep them inside 32 bits.
use Rattle.std.specs.Prelude.{ℕ, ◌+◌, ◌-◌, ◌*◌, ◌≤◌, ◌<◌, max, List, get_or}
use Rattle.ground.specs.Limits.{count_limit, weight_limit, word_limit}
use Rattle.ground.specs.Parts.{up, dn}
use Rattle.summary_place.specs.Slots.{nil}
use Rattle.summary_place.specs.declared.Slot.{Slot}

-- the larger of x and y + l - g: the form in which needs and climbs are computed
unfoldable pub step : ℕ → ℕ → ℕ → ℕ → ℕ
step x y l g = max x ((y + l) - g)

-- the largest need and climb of a word
abbrev pub slot_limit : ℕ
slot_limit = weight_limit * word_limit

-- a slot that is well formed, the signed number by its parts
pub record Well (cap : ℕ) (s : Slot) : Type 0 where
  pub need : s.need ≤ cap
  pub climb : s.climb ≤ cap
  pub down : dn s.change ≤ s.need
  pub top : up s.change ≤ s.climb

-- all slots are
pub record Wells (cap : ℕ) (slots : List Slot) : Type 0 where
  pub at : (p : ℕ) → p < count_limit → Well cap (get_or slots p nil)
