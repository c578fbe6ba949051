-- To be believed: the largest case file. How long one is by its counts (`file_length_lem` in proofs/Length.antt says that this is its text's length).
use Rattle.std.specs.Prelude.{ℕ, ◌+◌, ◌*◌, Bool, cond, eqb}
use Rattle.ground.specs.Limits.{count_limit, word_limit}
use Rattle.ground.specs.Lists.{tally}
use Rattle.net.specs.Net.{Net}
use Rattle.net.specs.Letter.{row}
use Rattle.file_mask.specs.Mask.{mask_bytes}
use Rattle.file_row.specs.Row.{narrow_row, weight_bytes, is_wide}
use Rattle.file_text.specs.Text.{letters_lines}

-- a frame of so many bytes as a line: two digits each, and a line feed
abbrev pub line_length : ℕ → ℕ
line_length bytes = 2 * bytes + 1

-- 02 or 03 with a number of two bytes for each of P places
abbrev pub numbers_length : ℕ → ℕ
numbers_length P = line_length (1 + 2 * P)

-- 06 with a mask; none for the mask 0
unfoldable pub mask_length : ℕ → ℕ
mask_length mask = cond (eqb mask 0) 0 (line_length (1 + mask_bytes))

-- a frame of kind k with a transition's weights: its kind, the transition, and a weight of Pre and one of Post for each of P places
abbrev pub row_length : ℕ → ℕ → ℕ
row_length k P = line_length (2 + 2 * (weight_bytes k * P))

-- transition t of a net has an 07; how many have
abbrev pub wide_at : Net → ℕ → Bool
wide_at net t = is_wide (row net.places t net.pre) (row net.places t net.post)

unfoldable pub wide_rows : Net → ℕ
wide_rows net = tally (wide_at net) net.transitions

-- T frames, `wide` of them 07 and the others 04; an 07 has two digits more for each of its 2 P weights
abbrev pub rows_length : ℕ → ℕ → ℕ → ℕ
rows_length P T wide = T * row_length narrow_row P + wide * (4 * P)

-- two digits a letter, and for each 05 its kind and its line feed
abbrev pub word_length : ℕ → ℕ
word_length n = 2 * n + line_length 1 * letters_lines n

-- the file of P places, T transitions of which `wide` have an 07, a mask and a word of n letters: 01, 02, perhaps 06, 03, T times 04 or 07, and the 05
abbrev pub file_length : ℕ → ℕ → ℕ → ℕ → ℕ → ℕ
file_length P T wide mask n = line_length 3 + (numbers_length P + (mask_length mask + (numbers_length P + (rows_length P T wide + word_length n))))

-- the longest file: of the most places, transitions and letters, each transition with a weight over 255, and some pocket
abbrev pub file_limit : ℕ
file_limit = file_length count_limit count_limit count_limit 1 word_limit
