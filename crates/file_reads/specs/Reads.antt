-- To be believed: what one read of the input does to a reading, and an input as a list of such reads.
use Rattle.std.specs.Prelude.{ℕ, zero, suc, ◌-◌, ◌^◌, ◌≡◌, Bool, cond, List, [], ◌∷◌, ◌++◌, length, take, ℤ, pos, negsuc}
use Rattle.ground.specs.Parts.{up}
use Rattle.file_line.specs.declared.Rooms.{Rooms}
use Rattle.file_line.specs.Read.{fresh}
use Rattle.file_parts.specs.File.{Run, going, stopped, Both, both, feed_all}
use Rattle.file_reads.specs.declared.Input.{Input}
use Rattle.file_reads.specs.declared.Input.TheVariants.{More, Over, Failed}

-- what one read came to: the count that it answered, whether a signal interrupted it, and the bytes that it brought
pub record Read : Type 0 where
  pub count : ℤ
  pub interrupted : Bool
  pub bytes : List ℕ

-- a read of this count that left the buffer so: it brought the buffer's first bytes, as many as it counts
abbrev pub read_as : ℤ → Bool → List ℕ → Read
read_as count interrupted buffer = record { count = count; interrupted = interrupted; bytes = take (up count) buffer }

-- a read brings as many bytes as it counts, and none where its count is negative
abbrev pub Brings : Read → Type 0
Brings r = length r.bytes ≡ up r.count

-- a reading of a case file, and whether there is more to read
pub record State : Type 0 where
  pub fed : Both
  pub input : Input

abbrev pub state : Both → Input → State
state z i = record { fed = z; input = i }

-- before the first read
abbrev pub unread : Rooms → State
unread x = state (both (going fresh []) x) More

-- a read that a signal interrupted is made again; any other failure is one
unfoldable pub failure_of : Bool → Input
failure_of interrupted = cond interrupted More Failed

-- after a refusal nothing more is read
unfoldable pub part_of : Run → Input
part_of (going s d) = More
part_of (stopped n l) = Over

-- one read: where its count is negative the reading stays, and it failed unless it was interrupted; a count of 0 is the
-- end of the input; else its bytes are fed, and there is more unless the reading is stopped now
unfoldable pub step_by : Both → ℤ → Bool → List ℕ → State
step_by z (negsuc k) interrupted bytes = state z (failure_of interrupted)
step_by z (pos zero) interrupted bytes = state z Over
step_by z (pos (suc k)) interrupted bytes = state (feed_all z bytes) (part_of (feed_all z bytes).run)

abbrev pub step_of : State → Read → State
step_of s r = step_by s.fed r.count r.interrupted r.bytes

-- reads one after another
unfoldable pub step_all : State → List Read → State
step_all s [] = s
step_all s (r ∷ rs) = step_all (step_of s r) rs

-- each of the reads leaves more to read
unfoldable pub AllMore : State → List Read → Type 0
AllMore s [] = Unit {0}
AllMore s (r ∷ rs) = ((step_of s r).input ≡ More) × (AllMore (step_of s r) rs)

-- each of the reads brings as many bytes as it counts
unfoldable pub AllBring : List Read → Type 0
AllBring [] = Unit {0}
AllBring (r ∷ rs) = (Brings r) × (AllBring rs)

-- all that the reads brought, put together
unfoldable pub bytes_in : List Read → List ℕ
bytes_in [] = []
bytes_in (r ∷ rs) = r.bytes ++ bytes_in rs

-- the most reads of a run: no run lives to make them, but nothing says that an input ends
abbrev pub read_limit : ℕ
read_limit = 2 ^ 64 - 1

-- how reads from the state s on end at e: each but the last leaves more, and the last does not; or each of the most
-- reads leaves more, and that is a failure
pub data InputEnds (s : State) (rs : List Read) (e : State) : Type 0 where
  by_last : (before : List Read) (last : Read) → rs ≡ before ++ (last ∷ []) → AllMore s before → e ≡ step_all s rs → (e.input ≡ More → ⊥) → InputEnds s rs e
  used_up : length rs ≡ read_limit → AllMore s rs → e ≡ state (step_all s rs).fed Failed → InputEnds s rs e

-- an input was read from the state s on, and came to e
pub record InputRead (s e : State) : Type 0 where
  pub reads : List Read
  pub brought : AllBring reads
  pub ended : InputEnds s reads e
