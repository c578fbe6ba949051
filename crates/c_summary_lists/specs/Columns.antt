-- To be believed: a summary's slots as three lists, exactly 64 entries, need, climb and change: the form in which C lends them.
use Rattle.std.specs.Prelude.{ℕ, Bool, ◌&&◌, List, length, get_or, eqb, ℤ, pos}
use Rattle.ground.specs.Limits.{count_limit}
use Rattle.ground.specs.Lists.{table}
use Rattle.summary_place.specs.Slots.{nil}
use Rattle.summary_place.specs.declared.Slot.{Slot}

pub record Columns : Type 0 where
  pub needs : List ℕ
  pub climbs : List ℕ
  pub changes : List ℤ

abbrev pub columns_of : List ℕ → List ℕ → List ℤ → Columns
columns_of needs climbs changes = record { needs = needs; climbs = climbs; changes = changes }

-- each list has an entry for each slot, else refusal 2
abbrev pub lengths_fit : ℕ → ℕ → ℕ → Bool
lengths_fit needs climbs changes = eqb needs count_limit && (eqb climbs count_limit && eqb changes count_limit)

abbrev pub fits : Columns → Bool
fits l = lengths_fit (length l.needs) (length l.climbs) (length l.changes)

-- the slots that three lists spell
abbrev pub slot_from : Columns → ℕ → Slot
slot_from l p = record { need = get_or l.needs p 0; climb = get_or l.climbs p 0; change = get_or l.changes p (pos 0) }

abbrev pub slots_from : Columns → List Slot
slots_from l = table (slot_from l) count_limit

-- the three lists of the slots
abbrev pub needs_of : List Slot → List ℕ
needs_of slots = table (λ p. (get_or slots p nil).need) count_limit

abbrev pub climbs_of : List Slot → List ℕ
climbs_of slots = table (λ p. (get_or slots p nil).climb) count_limit

abbrev pub changes_of : List Slot → List ℤ
changes_of slots = table (λ p. (get_or slots p nil).change) count_limit

abbrev pub columns_from : List Slot → Columns
columns_from slots = columns_of (needs_of slots) (climbs_of slots) (changes_of slots)
