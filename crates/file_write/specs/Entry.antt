-- To be believed: a net, its initial marking and a word written as a case file into lent room (document 02, E1); refusals 1 to 5, 17 and 18, "14, .. checked last".
use Rattle.std.specs.Prelude.{Ok, Err}
use Rattle.refusals.specs.Given.{Answer, Fault}
use Rattle.std.specs.Prelude.{ℕ, ◌≤◌, ◌≡◌, List, length, ltb}
use Rattle.std.proofs.lemmas.List.Edits.{sets}
use Rattle.net.specs.Net.{Net}
use Rattle.refusals.specs.Given.{refuse, or_else}
use Rattle.refusals.specs.First.{First, Given}
use Rattle.file_text.specs.Text.{file_of}
use Rattle.file_write.specs.Told.{text_fault, numbers, Writable, TextFirst}

-- 14: "room shorter than the exact length", n; position 0
unfoldable pub room_fault : ℕ → ℕ → Fault
room_fault n room = refuse (ltb room n) 14 0

-- 1, 2, 18, 3, 17, 4 and 5, then 14
unfoldable pub write_fault : Net → List ℕ → List ℕ → ℕ → Fault
write_fault net initial w room = or_else (text_fault net initial w) (room_fault (length (file_of net initial w)) room)

-- an answer, and the room left
pub record Wrote : Type 0 where
  pub answer : Answer ℕ
  pub left : List ℕ

-- the file at the front of the room: "Room past the end isn't touched"; "A refusal leaves lent memory as found."
abbrev pub answered : Fault → List ℕ → List ℕ → Wrote
answered (Ok _) file room = record { answer = Ok (length file); left = sets room 0 file }
answered (Err r) file room = record { answer = Err r; left = room }

abbrev pub write_of : Net → List ℕ → List ℕ → List ℕ → Wrote
write_of net initial w room = answered (write_fault net initial w (length room)) (file_of net initial w) room

-- what `write_case` promises of its answer r and of the room at its end
pub record CaseWritten (net : Net) (initial w room : List ℕ) (r : Answer ℕ) (room' : List ℕ) : Type 0 where
  pub answer : numbers r ≡ numbers (write_of net initial w room).answer
  pub left : room' ≡ (write_of net initial w room).left

-- all that is asked of what is lent: nothing is refused exactly where this holds
pub record Allowed (net : Net) (initial w room : List ℕ) : Type 0 where
  pub writable : Writable net initial w
  pub roomy : length (file_of net initial w) ≤ length room

-- its refusals in order, each exactly when its demand is the first that does not hold: n and at are what is given
abbrev pub Refusal : Net → List ℕ → List ℕ → List ℕ → ℕ → ℕ → Type 0
Refusal net initial w room n at =
    TextFirst net initial w n at (First (length (file_of net initial w) ≤ length room) (Given 14 0 n at) ⊥)
