-- To be believed: a whole case file into lent rooms of the largest sizes ("Case file lines"; "Refusal numbers").
use Rattle.std.specs.Prelude.{Ok, Err, ℕ, ◌*◌, ◌≡◌, Bool, cond, ◌&&◌, List, [], ◌∷◌, length, take, eqb}
use Rattle.std.proofs.lemmas.List.Edits.{sets}
use Rattle.ground.specs.Limits.{count_limit, word_limit}
use Rattle.file_line.specs.declared.Reading.{Reading}
use Rattle.file_line.specs.declared.Rooms.{Rooms}
use Rattle.file_line.specs.Read.{cell_limit, rooms, blank}
use Rattle.refusals.specs.Given.{Answer, refused}
use Rattle.file_parts.specs.File.{Both, Case, read_of, case_of}
use Rattle.file_entry.specs.declared.CaseFile.{CaseFile}

-- a file that is read, with its counts
abbrev pub read : ℕ → ℕ → ℕ → Answer CaseFile
read p t n = Ok (record { places = p; transitions = t; letters = n })

-- an answer, and the rooms left
pub record Came : Type 0 where
  pub answer : Answer CaseFile
  pub left : Rooms

abbrev pub came : Answer CaseFile → Rooms → Came
came r x = record { answer = r; left = x }

-- "places P, transitions T: 1 to 64 each", "letters in a word: 0 to 65,535": rooms for the largest net and word
unfoldable pub largest_of : ℕ → ℕ → ℕ → ℕ → ℕ → ℕ → Bool
largest_of caps marks initial pre post word =
    eqb caps count_limit && eqb marks count_limit && eqb initial count_limit && eqb pre cell_limit && eqb post cell_limit && eqb word word_limit

abbrev pub largest : Rooms → Bool
largest x = largest_of (length x.caps) (length x.marks) (length x.initial) (length x.pre) (length x.post) (length x.word)

pub record Largest (x : Rooms) : Type 0 where
  pub caps : length x.caps ≡ count_limit
  pub marks : length x.marks ≡ count_limit
  pub initial : length x.initial ≡ count_limit
  pub pre : length x.pre ≡ cell_limit
  pub post : length x.post ≡ cell_limit
  pub word : length x.word ≡ word_limit

-- the file byte by byte, from its first line on, into rooms with nothing in them
abbrev pub read_all : List ℕ → Both
read_all file = read_of blank file

-- the net's own entries and the word's letters, from y, at the front of x
abbrev pub laid : Reading → Rooms → Rooms → Rooms
laid s y x =
    rooms
    (sets x.caps 0 (take s.places y.caps))
    (sets x.marks 0 (take s.places y.marks))
    (sets x.initial 0 (take s.places y.initial))
    (sets x.pre 0 (take (s.transitions * s.places) y.pre))
    (sets x.post 0 (take (s.transitions * s.places) y.post))
    (sets x.word 0 (take s.letters y.word))

-- what a file that came to the case, and to the rooms y, answers and leaves in x; "A refusal leaves lent memory as found."
abbrev pub answered : Case → Rooms → Rooms → Came
answered (Ok s) y x = came (read s.places s.transitions s.letters) (laid s y x)
answered (Err r) y x = came (Err r) x

-- the file, where the rooms have the largest sizes
abbrev pub filled_of : List ℕ → Rooms → Came
filled_of file x = answered (case_of (read_all file).run) (read_all file).rooms x

-- 2: "a lent list's or room's length disagrees", position 0, before the file is looked at; else what the file comes to
abbrev pub case_file_of : List ℕ → Rooms → Came
case_file_of file x = cond (largest x) (filled_of file x) (came (refused 2 0) x)

-- document 01's numbers for each case: 81 00, places, transitions and letters; 82, a refusal's number and line
abbrev pub numbers : Answer CaseFile → List ℕ
numbers (Ok c) = 0x81 ∷ 0 ∷ c.places ∷ c.transitions ∷ c.letters ∷ []
numbers (Err r) = 0x82 ∷ r.number ∷ r.at ∷ []

-- what `read_case` promises of its answer r and of the rooms x' at its end
pub record CaseRead (file : List ℕ) (x : Rooms) (r : Answer CaseFile) (x' : Rooms) : Type 0 where
  pub answer : numbers r ≡ numbers (case_file_of file x).answer
  pub left : x' ≡ (case_file_of file x).left
