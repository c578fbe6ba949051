-- To be believed: what the program makes in its two rooms, of which the front of the one is written to standard output and that of the other to standard error.
-- As of the other program (kaunorpi/specs/Made.antt), the promise is that there are reads of which all this follows; that they are those of standard input is trusted.
use Rattle.std.specs.Prelude.{ℕ, Ok, ◌≡◌, List, [], take, Option}
use Rattle.std.specs.Io.KnownBytes.{Keeps, Appends}
use Rattle.file_line.specs.declared.Rooms.{Rooms}
use Rattle.file_reads.specs.declared.Input.TheVariants.{Over, Failed}
use Rattle.file_reads.specs.Reads.{State, unread, InputRead}
use Rattle.verdict_text.specs.Verdict.{bytes_of, WrittenBytes}
use Rattle.file_write.specs.Entry.{Wrote}
use Rattle.refusals.specs.Given.{refused}
use Rattle.file_again.specs.Again.{again_at}

-- "or 82, refusal number, line from 1"
abbrev pub refusal_bytes : ℕ → ℕ → List ℕ
refusal_bytes n l = bytes_of (refused n l) []

-- the line of these bytes stands at the front of the room
pub record Line (told bytes told' : List ℕ) : Type 0 where
  pub long : ℕ
  pub line : WrittenBytes told bytes long told'

-- what is made of a file that was written back: it stands in the room out, and nothing is told; or the line of its refusal is told, and out is as found
pub data Shown (w : Wrote) (out' told told' : List ℕ) : Type 0 where
  a_file : (n : ℕ) → w.answer ≡ Ok n → out' ≡ w.left → told' ≡ told → Shown w out' told told'
  a_line : (n l : ℕ) → w.answer ≡ refused n l → out' ≡ w.left → Line told (refusal_bytes n l) told' → Shown w out' told told'

-- what is made of an input that came to the state e: nothing, where it failed; where it is over, what is written back of all that was fed
pub data Output (e : State) (out out' told told' : List ℕ) : Type 0 where
  nothing : e.input ≡ Failed → out' ≡ out → told' ≡ told → Output e out out' told told'
  again : e.input ≡ Over → Shown (again_at e.fed out) out' told told' → Output e out out' told told'

-- what the program has made: there are reads from the first on, and what was made of their end
pub record Made (x : Rooms) (out out' told told' : List ℕ) : Type 0 where
  pub end : State
  pub input : InputRead (unread x) end
  pub output : Output end out out' told told'

-- what an output, where it is known which bytes it had and has, was given of a file that was written back: the front of the room, as long as the file; of a refusal nothing
pub data Given (w : Wrote) (had has : Option (List ℕ)) : Type 0 where
  a_front : (n : ℕ) → w.answer ≡ Ok n → Appends had has (take n w.left) → Given w had has
  no_front : (n l : ℕ) → w.answer ≡ refused n l → Keeps had has → Given w had has

-- what the program has made where it ends well: the input is over, and what was written back of all that was fed is shown and given
pub record Answered (x : Rooms) (out out' told told' : List ℕ) (had has : Option (List ℕ)) : Type 0 where
  pub end : State
  pub input : InputRead (unread x) end
  pub over : end.input ≡ Over
  pub shown : Shown (again_at end.fed out) out' told told'
  pub given : Given (again_at end.fed out) had has
