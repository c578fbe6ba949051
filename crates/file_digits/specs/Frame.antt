-- To be believed: a line's digits and the bytes and numbers that they spell ("Case file lines").
use Rattle.std.specs.Prelude.{ℕ, zero, suc, ◌+◌, ◌-◌, ◌*◌, Bool, true, false, cond, List, [], ◌∷◌, get_or, leb}
use Rattle.std.specs.List.{list_all}

-- document 02, E6: "Lines may have 516 digits" (01 had 260)
abbrev pub line_limit : ℕ
line_limit = 516

-- "all but the last hold 64"
abbrev pub block : ℕ
block = 64

-- the byte that ends a line
abbrev pub line_feed : ℕ
line_feed = 10

-- "digits 0-9 and A-F": the value of the digit b, and 0 for any other byte
unfoldable pub value_of : ℕ → ℕ
value_of b = cond (leb 48 b) (cond (leb b 57) (b - 48) (cond (leb 65 b) (cond (leb b 70) (b - 55) 0) 0)) 0

unfoldable pub is_digit : ℕ → Bool
is_digit b = cond (leb 48 b) (cond (leb b 57) true (cond (leb 65 b) (leb b 70) false)) false

unfoldable pub all_digits : List ℕ → Bool
all_digits d = list_all is_digit d

-- byte i of the frame that the digits d spell
unfoldable pub byte_at : List ℕ → ℕ → ℕ
byte_at d i = value_of (get_or d (2 * i) 0) * 16 + value_of (get_or d (2 * i + 1) 0)

-- "numbers of two or four bytes have the high byte first": the number of two bytes from byte i on
abbrev pub word_at : List ℕ → ℕ → ℕ
word_at d i = byte_at d i * 256 + byte_at d (i + 1)

-- n bytes of it from byte i on
unfoldable pub bytes_from : List ℕ → ℕ → ℕ → List ℕ
bytes_from d i zero = []
bytes_from d i (suc n) = byte_at d i ∷ bytes_from d (i + 1) n

-- n numbers of two bytes from byte i on
unfoldable pub words_from : List ℕ → ℕ → ℕ → List ℕ
words_from d i zero = []
words_from d i (suc n) = word_at d i ∷ words_from d (i + 2) n
