-- To be believed: the verdict line ("Output, one such line with its line feed").
use Rattle.std.specs.Prelude.{ℕ, ◌+◌, ◌*◌, List, [], ◌∷◌, ◌++◌, Ok, Err}
use Rattle.ground.specs.Limits.{count_limit}
use Rattle.file_put.specs.Put.{four, fours, line_text, PutLine}
use Rattle.net.specs.Firing.{cause_number, cause_place}
use Rattle.plays.specs.declared.Replay.{Replay}
use Rattle.plays.specs.declared.Replay.TheVariants.{Fired, Blocked}
use Rattle.refusals.specs.Given.{Answer}

-- "81 00, letters fired (4 bytes), P tokens (4 bytes each); or 81 01 (short) or 81 02 (over), position (4 bytes, from 0), place (1 byte);
-- or 82, refusal number, line from 1 (4 bytes)"
abbrev pub bytes_of : Answer Replay → List ℕ → List ℕ
bytes_of (Ok (Fired n)) marking = (0x81 ∷ []) ++ ((0 ∷ []) ++ (four n ++ fours marking))
bytes_of (Ok (Blocked i why)) marking = (0x81 ∷ []) ++ ((cause_number why ∷ []) ++ (four i ++ (cause_place why ∷ [])))
bytes_of (Err r) marking = (0x82 ∷ []) ++ ((r.number ∷ []) ++ four r.at)

-- "one such line with its line feed": the verdict line of an answer, with the marking left
abbrev pub verdict : Answer Replay → List ℕ → List ℕ
verdict r marking = line_text (bytes_of r marking)

-- the most bytes of a verdict line: 81 00 and the letters fired are 12 digits, each place has 8 more, and the line feed ends it;
-- a block's 14 digits and a refusal's 12 are fewer
abbrev pub answer_limit : ℕ
answer_limit = 13 + 8 * count_limit

-- the line of these bytes stands at the front of the room; r is its length
abbrev pub WrittenBytes : List ℕ → List ℕ → ℕ → List ℕ → Type 0
WrittenBytes room bytes r room' = PutLine room 0 bytes r room'
