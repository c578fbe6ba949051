-- To be believed: the line that the program makes. No contract can say which bytes a read gives, so the promise is that there are
-- reads of which all that the program does follows; that they are those of standard input is trusted.
use Rattle.std.specs.Prelude.{ℕ, ◌≡◌, List, Option}
use Rattle.std.specs.Io.KnownBytes.{Appends}
use Rattle.file_put.specs.Put.{line_text}
use Rattle.file_line.specs.declared.Rooms.{Rooms}
use Rattle.file_parts.specs.File.{case_of}
use Rattle.file_reads.specs.declared.Input.TheVariants.{Over, Failed}
use Rattle.file_reads.specs.Reads.{State, unread, InputRead}
use Rattle.verdict_text.specs.Verdict.{WrittenBytes}
use Rattle.verdict_line.specs.Answer.{answer_for}

-- the line of these bytes stands at the front of the room
pub record Shown (out bytes out' : List ℕ) : Type 0 where
  pub long : ℕ
  pub line : WrittenBytes out bytes long out'

-- what is made of an input that came to the state e: nothing, where it failed; where it is over, the line of what was fed
pub data Output (e : State) (out out' : List ℕ) : Type 0 where
  no_line : e.input ≡ Failed → out' ≡ out → Output e out out'
  a_line : e.input ≡ Over → Shown out (answer_for (case_of e.fed.run) e.fed.rooms) out' → Output e out out'

-- what the program has made: there are reads from the first on, and what was made of their end
pub record Made (x : Rooms) (out out' : List ℕ) : Type 0 where
  pub end : State
  pub input : InputRead (unread x) end
  pub output : Output end out out'

-- what the program has made where it ends well: the input is over, the line of all that was fed stands in the room, and where it is known which
-- bytes the output had and has, they are that line's more
pub record Answered (x : Rooms) (out out' : List ℕ) (had has : Option (List ℕ)) : Type 0 where
  pub end : State
  pub input : InputRead (unread x) end
  pub over : end.input ≡ Over
  pub shown : Shown out (answer_for (case_of end.fed.run) end.fed.rooms) out'
  pub written : Appends had has (line_text (answer_for (case_of end.fed.run) end.fed.rooms))
