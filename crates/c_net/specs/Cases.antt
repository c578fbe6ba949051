-- To be believed: a case file for C: the counts of what was read, or a refusal with its line.
use Rattle.std.specs.Prelude.{◌≡◌, cond, List, ℕ}
use Rattle.file_line.specs.declared.Rooms.{Rooms}
use Rattle.file_entry.specs.Entry.{Came, numbers}
use Rattle.c_answer.specs.Hand.{at, asked}
use Rattle.c_net.specs.declared.CaseAnswer.{CaseAnswer}

-- places, transitions and letters where the file was read, else a refusal's line
unfoldable pub handed_case : List ℕ → CaseAnswer
handed_case ns =
    record {
      kind = at 0 ns;
      number = at 1 ns;
      position = cond (asked ns) 0 (at 2 ns);
      places = cond (asked ns) (at 2 ns) 0;
      transitions = at 3 ns;
      letters = at 4 ns;
    }

-- the answer to a case file and what it leaves in the rooms
pub record HandedCase (came : Came) (r : CaseAnswer) (rooms' : Rooms) : Type 0 where
  pub answer : r ≡ handed_case (numbers came.answer)
  pub left : rooms' ≡ came.left
