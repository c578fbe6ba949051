-- To be believed: a case file written back, for C: its length, or a refusal with its position.
use Rattle.std.specs.Prelude.{ℕ, ◌≡◌, cond, List}
use Rattle.file_write.specs.Told.{numbers}
use Rattle.file_write.specs.Entry.{Wrote}
use Rattle.c_answer.specs.Hand.{at, asked}
use Rattle.c_write.specs.declared.LengthAnswer.{LengthAnswer}

-- the length of the file that was written or asked about, else a refusal's position
unfoldable pub handed_length : List ℕ → LengthAnswer
handed_length ns = record { kind = at 0 ns; number = at 1 ns; position = cond (asked ns) 0 (at 2 ns); length = cond (asked ns) (at 2 ns) 0 }

-- the answer to writing a case file, and what it leaves in the room
pub record HandedFile (wrote : Wrote) (r : LengthAnswer) (room' : List ℕ) : Type 0 where
  pub answer : r ≡ handed_length (numbers wrote.answer)
  pub left : room' ≡ wrote.left
