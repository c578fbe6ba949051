-- To be believed: what is written back of a case file, as a function of what the file comes to (document 02, E1: "writing what was read").
use Rattle.std.specs.Prelude.{ℕ, ◌≡◌, List, Ok, Err}
use Rattle.refusals.specs.Given.{Answer}
use Rattle.file_line.specs.declared.Rooms.{Rooms}
use Rattle.file_line.specs.Read.{net_in}
use Rattle.file_parts.specs.File.{Case, Both, read_of, case_of}
use Rattle.file_text.specs.Text.{marking_in, word_in}
use Rattle.file_write.specs.Told.{numbers}
use Rattle.file_write.specs.Entry.{Wrote, write_of}

-- a whole case: what the writer makes of the net, the marking and the word that were read; a refused file: its number and line, and the room as found
abbrev pub again_for : Case → Rooms → List ℕ → Wrote
again_for (Ok s) x out = write_of (net_in s x) (marking_in s x) (word_in s x) out
again_for (Err r) x out = record { answer = Err r; left = out }

-- what is written back of a state of the reading, if the file ends there
abbrev pub again_at : Both → List ℕ → Wrote
again_at z out = again_for (case_of z.run) z.rooms out

-- what is written back of a file, read into the rooms x
abbrev pub file_again : List ℕ → Rooms → List ℕ → Wrote
file_again f x out = again_at (read_of x f) out

-- what is promised of the answer r and of the room at its end
pub record WrittenAgain (c : Case) (x : Rooms) (out : List ℕ) (r : Answer ℕ) (out' : List ℕ) : Type 0 where
  pub answer : numbers r ≡ numbers (again_for c x out).answer
  pub left : out' ≡ (again_for c x out).left
