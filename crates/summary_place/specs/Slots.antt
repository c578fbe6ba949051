-- To be believed: one place of a summary, and all its places: of a word, joined, and tested by refusal 6.
use Rattle.std.specs.Prelude.{ℕ, max, Bool, cond, ◌||◌, List, get_or, ltb, pos, ◌+ℤ◌, ◌-ℤ◌}
use Rattle.ground.specs.Limits.{count_limit}
use Rattle.ground.specs.Lists.{first, map_at, table}
use Rattle.ground.specs.Parts.{up, dn}
use Rattle.net.specs.Net.{Net}
use Rattle.summary_place.specs.Place.{Move, letter_at, need, climb, change}
use Rattle.summary_place.specs.declared.Slot.{Slot}

-- the slot of the empty word, and of no place
abbrev pub nil : Slot
nil = record { need = 0; climb = 0; change = pos 0 }

-- what the word w needs, climbs and changes at one place
unfoldable pub slot_of : (ℕ → Move) → List ℕ → Slot
slot_of at w = record { need = need at w; climb = climb at w; change = change at w }

-- "these three per place"; slots past the place count are zero
abbrev pub slot_at : Net → List ℕ → ℕ → Slot
slot_at net w p = cond (ltb p net.places) (slot_of (letter_at net p) w) nil

abbrev pub slots_of : Net → List ℕ → List Slot
slots_of net w = table (slot_at net w) count_limit

-- "Join of a then b: .. changes add; need = max(need a, need b - change a); climb = max(climb a, change a + climb b)."
unfoldable pub joined : Slot → Slot → Slot
joined a b =
    record {
      need = max a.need (up (pos b.need -ℤ a.change));
      climb = max a.climb (up (a.change +ℤ pos b.climb));
      change = a.change +ℤ b.change;
    }

-- slot by slot
abbrev pub joined_all : List Slot → List Slot → List Slot
joined_all a b = map_at (λ k x. joined x (get_or b k nil)) a

-- not "0 <= need <= .., 0 <= climb <= .., -need <= change <= climb", where cap stands for the dots: the largest weight times n; at cap 0 only the zero
-- slot is well formed
unfoldable pub slot_bad : ℕ → Slot → Bool
slot_bad cap s =
    ltb cap s.need || (ltb cap s.climb || (ltb s.need (dn s.change) || ltb s.climb (up s.change)))

-- "slots past the place count, if the form has any, are zero"
abbrev pub bad_at : ℕ → ℕ → ℕ → Slot → Bool
bad_at places cap p s = slot_bad (cond (ltb p places) cap 0) s

-- "the lowest place or slot", or the number of slots
abbrev pub bad_slot : ℕ → ℕ → List Slot → ℕ
bad_slot places cap slots = first (λ p. bad_at places cap p (get_or slots p nil)) count_limit
