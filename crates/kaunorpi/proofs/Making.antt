-- Laws for the program's walk: what is made of an input that was read. Assumes nothing.
use Prim.Native.Nat.{ℕ}
use mathlib.Core.Path.{◌≡◌}
use mathlib.Core.List.{List}
use Rattle.std.specs.Prelude.{Option}
use Rattle.std.specs.Io.KnownBytes.{Appends}
use Rattle.file_put.specs.Put.{line_text}
use Rattle.file_line.specs.declared.Rooms.{Rooms}
use Rattle.file_parts.specs.File.{case_of}
use Rattle.file_reads.specs.declared.Input.TheVariants.{Failed}
use Rattle.file_reads.specs.Reads.{State, unread, InputRead}
use Rattle.file_reads.proofs.Inputs.{ends_over}
use Rattle.verdict_line.specs.Answer.{answer_for}
use Rattle.kaunorpi.specs.Made.{Shown, no_line, a_line, Made, Answered}

module _ (x : Rooms) (e : State) (r : InputRead (unread x) e) (out out' : List ℕ) where
  pub made_nothing : e.input ≡ Failed → out' ≡ out → Made x out out'
  made_nothing f q = record { end = e; input = r; output = no_line f q }

  pub made_line : (e.input ≡ Failed → ⊥) → Shown out (answer_for (case_of e.fed.run) e.fed.rooms) out' → Made x out out'
  made_line f q = record { end = e; input = r; output = a_line (ends_over _ e r f) q }

  pub answered : (had has : Option (List ℕ)) → (e.input ≡ Failed → ⊥) → Shown out (answer_for (case_of e.fed.run) e.fed.rooms) out'
      → Appends had has (line_text (answer_for (case_of e.fed.run) e.fed.rooms)) → Answered x out out' had has
  answered had has f q w = record { end = e; input = r; over = ends_over _ e r f; shown = q; written = w }
