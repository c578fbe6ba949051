-- Only for the code's walk, no answer is made of it: a step by what the code looks at, and reads that are not the last.
use Rattle.std.specs.Prelude.{ℕ, zero, suc, ◌≡◌, Bool, List, length, ℤ, pos, negsuc, Ok, Err}
use Rattle.refusals.specs.Given.{Answer}
use Rattle.file_line.specs.declared.Reading.{Reading}
use Rattle.file_reads.specs.declared.Input.{Input}
use Rattle.file_reads.specs.declared.Input.TheVariants.{More, Over}
use Rattle.file_reads.specs.Reads.{Read, Brings, AllBring, AllMore, State, failure_of, step_of, step_all}

-- after a part, by the reading, which a refusal stops
abbrev pub part_by : Answer Reading → Input
part_by (Ok s) = More
part_by (Err r) = Over

-- what a read leaves, by its count's sign
unfoldable pub input_of : ℤ → Bool → Input → Input
input_of (negsuc k) interrupted part = failure_of interrupted
input_of (pos zero) interrupted part = Over
input_of (pos (suc k)) interrupted part = part

-- one read was made at the state s, and came to e
pub record OneRead (s e : State) : Type 0 where
  pub read : Read
  pub brought : Brings read
  pub stepped : e ≡ step_of s read

-- so many reads were made from the state s on; each left more, and they came to e
pub record MoreReads (s : State) (made : ℕ) (e : State) : Type 0 where
  pub reads : List Read
  pub count : length reads ≡ made
  pub brought : AllBring reads
  pub more : AllMore s reads
  pub stepped : e ≡ step_all s reads
