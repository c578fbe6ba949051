-- To be believed: the summary of a word, the empty summary, and when a summary is well formed (document 01, "Summaries").
use Rattle.std.specs.Prelude.{Ok, Err}
use Rattle.refusals.specs.Given.{Answer, Fault}
use Rattle.std.specs.Prelude.{ℕ, ◌*◌, ◌≤◌, ◌<◌, ◌≡◌, List, [], ◌∷◌, length, get_or, replicate, ltb, pos, neg_ℤ, ◌≤ℤ◌}
use Rattle.ground.specs.Limits.{count_limit, weight_limit, word_limit}
use Rattle.net.specs.Net.{Net}
use Rattle.refusals.specs.Given.{refuse, or_else}
use Rattle.summary_place.specs.Slots.{nil, slots_of, bad_slot}
use Rattle.summary_place.specs.declared.Slot.{Slot}
use Rattle.summary_form.specs.declared.Summary.{Summary}

-- "A summary holds the place count, the length n, and these three per place."
abbrev pub summary_of : Net → List ℕ → Summary
summary_of net w = record { places = net.places; letters = length w; slots = slots_of net w }

-- "The empty summary, one for each place count, is a named thing of its own, beside the limits."
abbrev pub empty_summary : ℕ → Summary
empty_summary P = record { places = P; letters = 0; slots = replicate count_limit nil }

-- the summary of an answer: its own. A refusal comes with the empty summary of no places.
abbrev pub or_empty : Answer Summary → Summary
or_empty (Ok s) = s
or_empty (Err r) = empty_summary 0

-- document 01's numbers for each case of an answer that carries a summary: 81 00; 82, a refusal's number and position
abbrev pub made_numbers : Answer Summary → List ℕ
made_numbers (Ok s) = 0x81 ∷ 0 ∷ []
made_numbers (Err r) = 0x82 ∷ r.number ∷ r.at ∷ []

-- 6: "a summary isn't well formed"; position "0 if n is too large, else the lowest place or slot"
abbrev pub bad_of : Summary → ℕ
bad_of s = bad_slot s.places (weight_limit * s.letters) s.slots

unfoldable pub shape_fault : Summary → Fault
shape_fault s = or_else (refuse (ltb word_limit s.letters) 6 0) (refuse (ltb (bad_of s) count_limit) 6 (bad_of s))

-- When a summary is well formed, where `limit` is the largest weight; document 02 (E6) puts another in place of 01's, "so every stored summary stays well
-- formed" (`still_well_formed` in proofs/Meaning.antt).
-- at one place: "0 <= need <= .., 0 <= climb <= .., -need <= change <= climb", where limit times n stands for the dots
pub record WellAt (limit n : ℕ) (s : Slot) : Type 0 where
  pub need : s.need ≤ limit * n
  pub climb : s.climb ≤ limit * n
  pub low : neg_ℤ (pos s.need) ≤ℤ s.change
  pub high : s.change ≤ℤ pos s.climb

-- slot p of a summary: at a place as above; "slots past the place count, if the form has any, are zero"
pub record FormedAt (limit : ℕ) (s : Summary) (p : ℕ) : Type 0 where
  pub at : p < s.places → WellAt limit s.letters (get_or s.slots p nil)
  pub past : s.places ≤ p → get_or s.slots p nil ≡ nil

pub record SlotsFormed (limit : ℕ) (s : Summary) : Type 0 where
  pub each : (p : ℕ) → p < count_limit → FormedAt limit s p

-- "It is well formed if n <= 65,535 and at each place .."
pub record WellFormedBy (limit : ℕ) (s : Summary) : Type 0 where
  pub few : s.letters ≤ word_limit
  pub slots : SlotsFormed limit s

-- by the limit in force
abbrev pub WellFormed : Summary → Type 0
WellFormed s = WellFormedBy weight_limit s

-- a place count of 1 to 64
pub record Count (P : ℕ) : Type 0 where
  pub some : 1 ≤ P
  pub few : P ≤ count_limit

-- a well-formed summary of P places as the struct holds one: with 64 slots
pub record Held (P : ℕ) (s : Summary) : Type 0 where
  pub range : Count P
  pub count : s.places ≡ P
  pub slots : length s.slots ≡ count_limit
  pub formed : WellFormed s
