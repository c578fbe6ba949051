-- To be believed: "A summary asked against a marking", one place, then all.
use Rattle.std.specs.Prelude.{ℕ, ◌+◌, ◌-◌, ◌≤◌, ◌<◌, Bool, ◌&&◌, ◌||◌, List, length, get_or, ltb}
use Rattle.ground.specs.Limits.{no_capacity}
use Rattle.ground.specs.Lists.{first, table}
use Rattle.ground.specs.Parts.{up, dn}
use Rattle.summary_place.specs.Slots.{nil}
use Rattle.summary_place.specs.declared.Slot.{Slot}

-- one place says no: it has fewer tokens than the need, or it has a capacity and tokens plus climb are above it
abbrev pub no_at : ℕ → ℕ → ℕ → ℕ → Bool
no_at need climb cap tokens = ltb tokens need || (ltb cap no_capacity && ltb cap (tokens + climb))

-- the lowest place that says no, or the number of places
abbrev pub lowest_no : List Slot → List ℕ → List ℕ → ℕ
lowest_no slots caps m = first (λ p. no_at (get_or slots p nil).need (get_or slots p nil).climb (get_or caps p 0) (get_or m p 0)) (length m)

-- one place at the end: its tokens plus change
abbrev pub end_at : Slot → ℕ → ℕ
end_at s tokens = tokens + up s.change - dn s.change

-- the end marking
abbrev pub ends : List Slot → List ℕ → List ℕ
ends slots m = table (λ p. end_at (get_or slots p nil) (get_or m p 0)) (length m)

-- one place says yes: its tokens cover the need, and with the climb they keep to its capacity
pub record SufficesAt (need climb cap tokens : ℕ) : Type 0 where
  pub covers : need ≤ tokens
  pub keeps : cap < no_capacity → tokens + climb ≤ cap

-- every place says yes: the marking suffices for the slots
pub record Suffices (slots : List Slot) (caps m : List ℕ) : Type 0 where
  pub at : (p : ℕ) → p < length m → SufficesAt (get_or slots p nil).need (get_or slots p nil).climb (get_or caps p 0) (get_or m p 0)
