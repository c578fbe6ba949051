-- To be believed: the line that the program writes, as a function of what a case file comes to.
use Rattle.std.specs.Prelude.{Ok, Err, ℕ, true, List, []}
use Rattle.ground.specs.Lists.{table}
use Rattle.file_line.specs.declared.Reading.{Reading}
use Rattle.file_line.specs.declared.Rooms.{Rooms}
use Rattle.file_line.specs.Read.{net_in}
use Rattle.file_parts.specs.File.{Both, Case, read_of, case_of}
use Rattle.file_text.specs.Text.{marking_in, word_in}
use Rattle.replay.specs.Entry.{Answered, replay_of}
use Rattle.file_put.specs.Put.{line_text}
use Rattle.verdict_text.specs.Verdict.{bytes_of}

-- a number for each place, in which a replay leaves its marking; what it holds before does not show (`any_room`)
abbrev pub room_for : Reading → List ℕ
room_for s = table (λ _. 0) s.places

-- the replay of a whole case
abbrev pub ran_read : Reading → Rooms → Answered
ran_read s x = replay_of (net_in s x) (marking_in s x) (word_in s x) true (room_for s)

-- "Output, one such line with its line feed": the verdict of a whole case's replay, with the marking left;
-- "or 82, refusal number, line from 1"
abbrev pub answer_for : Case → Rooms → List ℕ
answer_for (Ok s) x = bytes_of (ran_read s x).answer (ran_read s x).left
answer_for (Err r) x = bytes_of (Err r) []

abbrev pub line_for : Case → Rooms → List ℕ
line_for c x = line_text (answer_for c x)

-- the line of a state of the reading, if the file ends there
abbrev pub line_at : Both → List ℕ
line_at z = line_for (case_of z.run) z.rooms

-- the line that answers a file, read into the rooms x
abbrev pub file_line : List ℕ → Rooms → List ℕ
file_line f x = line_at (read_of x f)
