-- Laws of one read as it was answered. Assumes nothing.
use Prim.Native.Nat.{ℕ, ◌≤◌}
use mathlib.Core.Path.{◌≡◌, ap, ◌∙◌}
use mathlib.Core.Bool.{Bool}
use mathlib.Core.List.{List}
use lib.ListN.{length}
use lib.Seq.{length-take-le}
use lib.IntN.{ℤ}
use Rattle.ground.specs.Parts.{up}
use Rattle.file_reads.specs.Reads.{read_as, State, step_of}
use Rattle.file_reads.specs.Walk.{OneRead}

-- one read; g is its count as the step was handed it
pub read_one : (s e : State) (got g : ℤ) (i : Bool) (buf : List ℕ) → g ≡ got → up got ≤ length buf → e ≡ step_of s (read_as g i buf) → OneRead s e
read_one s e got g i buf eg h q =
    record {
      read = read_as got i buf;
      brought = length-take-le (up got) buf h;
      stepped = q ∙ ap (λ (z : ℤ). step_of s (read_as z i buf)) eg;
    }
