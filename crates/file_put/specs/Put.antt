-- To be believed: bytes and numbers written as a line's digits ("Case file lines"), at a position of a room.
use Rattle.std.specs.Prelude.{ℕ, ◌+◌, ◌/◌, ◌%◌, cond, List, [], ◌∷◌, ◌++◌, leb}
use Rattle.file_digits.specs.Frame.{line_feed}
use Rattle.file_put.specs.Append.{Appended}

-- the digit of the value n
unfoldable pub digit_of : ℕ → ℕ
digit_of n = cond (leb n 9) (n + 48) (n + 55)

-- the digits of bytes, two each
unfoldable pub digits_of : List ℕ → List ℕ
digits_of [] = []
digits_of (b ∷ bs) = digit_of (b / 16) ∷ digit_of (b % 16) ∷ digits_of bs

-- "One frame a line: .. digits 0-9 and A-F, then a line feed": the line of a frame's bytes
abbrev pub line_text : List ℕ → List ℕ
line_text bytes = digits_of bytes ++ (line_feed ∷ [])

-- "numbers of two or four bytes have the high byte first": the bytes of a number of two bytes, and of one of four
unfoldable pub two : ℕ → List ℕ
two n = n / 256 ∷ n % 256 ∷ []

unfoldable pub four : ℕ → List ℕ
four n = n / 16777216 % 256 ∷ n / 65536 % 256 ∷ n / 256 % 256 ∷ n % 256 ∷ []

-- and of a list of them
unfoldable pub twos : List ℕ → List ℕ
twos [] = []
twos (n ∷ ns) = n / 256 ∷ n % 256 ∷ twos ns

unfoldable pub fours : List ℕ → List ℕ
fours [] = []
fours (n ∷ ns) = four n ++ fours ns

-- bytes were put into the room at number at, as digits; r is the number after them
abbrev pub Put : List ℕ → ℕ → List ℕ → ℕ → List ℕ → Type 0
Put room at bytes r room' = Appended room at (digits_of bytes) r room'

-- the line of these bytes was put there
abbrev pub PutLine : List ℕ → ℕ → List ℕ → ℕ → List ℕ → Type 0
PutLine room at bytes r room' = Appended room at (line_text bytes) r room'
