-- To be believed: a case file as a run of bytes: a fold, so that any cutting into parts comes to the same.
use Rattle.std.specs.Prelude.{Ok, Err, ℕ, suc, ◌+◌, ◌≡◌, cond, List, [], ◌∷◌, ◌++◌, length, ltb, eqb}
use Rattle.file_digits.specs.Frame.{line_limit, line_feed}
use Rattle.file_line.specs.declared.Reading.{Reading}
use Rattle.refusals.specs.Given.{Answer, refused}
use Rattle.file_line.specs.declared.Rooms.{Rooms}
use Rattle.file_line.specs.Read.{fresh, line_of, rooms_of}

-- a reading goes on, with the bytes of the line so far; or it stopped, with a refusal's number and line
pub data Run : Type 0 where
  going : Reading → List ℕ → Run
  stopped : ℕ → ℕ → Run

pub record Both : Type 0 where
  pub run : Run
  pub rooms : Rooms

abbrev pub both : Run → Rooms → Both
both r x = record { run = r; rooms = x }

-- after a line
abbrev pub ended : Answer Reading → Run
ended (Ok t) = going t []
ended (Err r) = stopped r.number r.at

-- one byte: a line feed ends the line, at most as many digits as a line may have are held, and "the earliest faulty line decides"
unfoldable pub fed_to : Run → Rooms → ℕ → Both
fed_to (going s d) x b =
    cond (eqb b line_feed) (both (ended (line_of s d x)) (rooms_of s d x))
    (cond (ltb (length d) line_limit) (both (going s (d ++ (b ∷ []))) x) (both (stopped 11 (s.line + 1)) x))
fed_to (stopped n l) x b = both (stopped n l) x

abbrev pub feed_of : Both → ℕ → Both
feed_of z b = fed_to z.run z.rooms b

unfoldable pub feed_all : Both → List ℕ → Both
feed_all z [] = z
feed_all z (b ∷ bs) = feed_all (feed_of z b) bs

-- a file from its first line on, read into the rooms x
abbrev pub read_of : Rooms → List ℕ → Both
read_of x file = feed_all (both (going fresh []) x) file

-- a file cut into parts, put together again
unfoldable pub together : List (List ℕ) → List ℕ
together [] = []
together (part ∷ parts) = part ++ together parts

-- the same read part after part
unfoldable pub feed_parts : Both → List (List ℕ) → Both
feed_parts z [] = z
feed_parts z (part ∷ parts) = feed_parts (feed_all z part) parts

-- what a whole file comes to: its last state, or its refusal, with the line
abbrev pub Case : Type 0
Case = Answer Reading

-- "frames missing at the end" are 12; "Missing frames count as the line after the last"
unfoldable pub finish_of : Reading → Case
finish_of s = cond (eqb s.phase 5) (Ok s) (refused 12 (s.line + 1))

-- the end of the file: a line that "lacks its line feed" is 11
unfoldable pub case_of : Run → Case
case_of (going s []) = finish_of s
case_of (going s (b ∷ d)) = refused 11 (s.line + 1)
case_of (stopped n l) = refused n l

-- how many bytes stand before the first line feed
unfoldable pub line_len : List ℕ → ℕ
line_len [] = 0
line_len (b ∷ bs) = cond (eqb b line_feed) 0 (suc (line_len bs))

abbrev pub NoFeed : List ℕ → Type 0
NoFeed d = line_len d ≡ length d
