-- To be believed: which files are refused, with which number and line ("Refusal numbers"; "In a file the earliest faulty line decides").
use Rattle.std.specs.Prelude.{ℕ, ◌+◌, ◌≡◌, cond, List, [], ◌∷◌, ◌++◌, eqb}
use Rattle.ground.specs.Limits.{count_limit, word_limit}
use Rattle.file_digits.specs.Frame.{line_feed}
use Rattle.file_line.specs.declared.Reading.{Reading}
use Rattle.file_line.specs.declared.Rooms.{Rooms}
use Rattle.file_line.specs.Read.{fresh, advanced, stored}
use Rattle.file_line.specs.Line.{Taken, Judged}
use Rattle.file_parts.specs.File.{NoFeed}
use Rattle.file_text.specs.Text.{letters_lines}

-- the line feeds of a run of bytes, so that the line after them is, "from 1", one more
unfoldable pub feeds : List ℕ → ℕ
feeds [] = 0
feeds (b ∷ bs) = cond (eqb b line_feed) 1 0 + feeds bs

-- whole lines from the first on, each with all that document 01 asks of it where it stands; s and y are the state and the rooms after them
pub data TakenLines (x : Rooms) : List ℕ → Reading → Rooms → Type 0 where
  no_line : TakenLines x [] fresh x
  one_more : (lines line : List ℕ) (s : Reading) (y : Rooms) → TakenLines x lines s y → NoFeed line → Taken s line y
      → TakenLines x (lines ++ (line ++ (line_feed ∷ []))) (advanced s line) (stored s line y)

-- a file is refused with number n on line l in one of three ways
pub data RefusedFile (x : Rooms) (file : List ℕ) (n l : ℕ) : Type 0 where
  -- "the earliest faulty line decides": the lines before it are taken, and n is the first of 01's demands that it breaks; whatever stands after it
  faulty_line : (lines line rest : List ℕ) (s : Reading) (y : Rooms) → TakenLines x lines s y → file ≡ lines ++ (line ++ (line_feed ∷ rest)) → NoFeed line
      → Judged s line y n l → l ≡ feeds lines + 1 → RefusedFile x file n l
  -- "a line .. lacks its line feed": 11 on the last line, whatever it holds
  cut_off : (lines line : List ℕ) (s : Reading) (y : Rooms) → TakenLines x lines s y → file ≡ lines ++ line → NoFeed line → (line ≡ [] → ⊥)
      → n ≡ 11 → l ≡ feeds lines + 1 → RefusedFile x file n l
  -- "frames missing at the end": 12 on the line after the last
  frames_missing : (s : Reading) (y : Rooms) → TakenLines x file s y → (s.phase ≡ 5 → ⊥) → n ≡ 12 → l ≡ feeds file + 1 → RefusedFile x file n l

-- the last line on which a file can be refused: the one after 01, 02, 06, 03, an 04 or 07 for each of 64 transitions, and the 1,024 times 05 of the longest word
abbrev pub last_line : ℕ
last_line = 4 + count_limit + letters_lines word_limit + 1
