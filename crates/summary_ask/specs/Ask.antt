-- To be believed: "A summary asked against a marking answers yes with the end marking, or no, which leaves the room for the end marking untouched.
-- For a summary no word produced, only the arithmetic holds": the answer is said of the summary's numbers alone.
use Rattle.std.specs.Prelude.{Ok, Err}
use Rattle.refusals.specs.Given.{Answer, Fault}
use Rattle.std.specs.Prelude.{ℕ, ◌<◌, ◌≡◌, Bool, cond, ◌&&◌, List, [], ◌∷◌, length, eqb, leb}
use Rattle.net.specs.Net.{Net, capacity, tokens}
use Rattle.refusals.specs.Given.{refuse, or_else, outside, marked_fault}
use Rattle.summary_place.specs.Place.{letter_at, need, published_climb}
use Rattle.summary_asked.specs.Asked.{lowest_no, ends, SufficesAt}
use Rattle.summary_place.specs.declared.Slot.{Slot}
use Rattle.summary_form.specs.Summary.{shape_fault}
use Rattle.summary_form.specs.declared.Summary.{Summary}
use Rattle.summary_ask.specs.declared.Asked.{Asked}
use Rattle.summary_ask.specs.declared.Asked.TheVariants.{Yes, No}

-- an answer, and the room left
pub record Reply : Type 0 where
  pub answer : Answer Asked
  pub left : List ℕ

-- 1 for the summary's own place count; 1, 2, 18, 3 and 17 for the net and the marking, with the room's length and the summary's place count; then 6
unfoldable pub ask_fault : Net → List ℕ → Summary → Bool → Fault
ask_fault net m s roomy =
    or_else (refuse (outside s.places) 1 0)
    (or_else (marked_fault net m (roomy && eqb s.places net.places)) (shape_fault s))

-- yes where no place says no
abbrev pub says_yes : List Slot → List ℕ → List ℕ → Bool
says_yes slots caps m = leb (length m) (lowest_no slots caps m)

-- the answer of the slots, and the room
abbrev pub slots_reply : List Slot → List ℕ → List ℕ → List ℕ → Reply
slots_reply slots caps m room = cond (says_yes slots caps m) (record { answer = Ok Yes; left = ends slots m }) (record { answer = Ok No; left = room })

-- "A refusal leaves lent memory as found."
abbrev pub replied : Fault → Reply → List ℕ → Reply
replied (Ok _) reply room = reply
replied (Err r) reply room = record { answer = Err r; left = room }

abbrev pub ask_answer : Net → List ℕ → Summary → List ℕ → Reply
ask_answer net m s room =
    replied (ask_fault net m s (eqb (length room) net.places)) (slots_reply s.slots net.caps m room) room

-- document 01's numbers for each case: 81 00 yes, 81 01 no; 82, a refusal's number and position
abbrev pub asked_numbers : Answer Asked → List ℕ
asked_numbers (Ok Yes) = 0x81 ∷ 0 ∷ []
asked_numbers (Ok No) = 0x81 ∷ 1 ∷ []
asked_numbers (Err r) = 0x82 ∷ r.number ∷ r.at ∷ []

-- what is promised of the answer r and of the room at its end
pub record Replied (net : Net) (m : List ℕ) (s : Summary) (room : List ℕ) (r : Answer Asked) (room' : List ℕ) : Type 0 where
  pub answer : asked_numbers r ≡ asked_numbers (ask_answer net m s room).answer
  pub left : room' ≡ (ask_answer net m s room).left

-- demand 3's condition on a word: the marking covers the need and marking plus climb keeps to each capacity, with the climb of the mixed net
pub record SufficesWord (net : Net) (w m : List ℕ) : Type 0 where
  pub at : (p : ℕ) → p < net.places → SufficesAt (need (letter_at net p) w) (published_climb net p w) (capacity net p) (tokens m p)
