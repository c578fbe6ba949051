-- To be believed: the pockets of a net in a case file: document 02, E5, "A frame 06, eight bytes, place 0 the lowest bit of the last byte".
use Rattle.std.specs.Prelude.{ℕ, zero, suc, ◌+◌, ◌*◌, ◌/◌, ◌%◌, ◌≤◌, Bool, cond, not, ◌&&◌, List, [], ◌∷◌, ◌++◌, get_or, eqb}
use Rattle.file_digits.specs.Frame.{bytes_from}
use Rattle.file_put.specs.Put.{four}

-- how many bytes a mask has
abbrev pub mask_bytes : ℕ
mask_bytes = 8

-- a number of eight bytes is below this
abbrev pub mask_limit : ℕ
mask_limit = 18446744073709551616

-- "0 plain, any other pocket, all alike; the file reader gives 1": a mark as a file has it
abbrev pub bit_of : ℕ → ℕ
bit_of mark = cond (eqb mark 0) 0 1

-- each mark is as a file has it
pub record Bits (marks : List ℕ) : Type 0 where
  pub at : (p : ℕ) → get_or marks p 0 ≤ 1

-- the mask of marks: a bit for each place, place 0 the lowest
unfoldable pub mask_of : List ℕ → ℕ
mask_of [] = 0
mask_of (x ∷ xs) = bit_of x + 2 * mask_of xs

-- the n lowest bits of a mask, the lowest first: a mark for each of n places
unfoldable pub bits_of : ℕ → ℕ → List ℕ
bits_of m zero = []
bits_of m (suc n) = m % 2 ∷ bits_of (m / 2) n

-- what it has above the n lowest bits
unfoldable pub above_bits : ℕ → ℕ → ℕ
above_bits m zero = m
above_bits m (suc n) = above_bits (m / 2) n

-- "A bit at or past P, or an all-zero mask, is refusal 12"
unfoldable pub mask_fits : ℕ → ℕ → Bool
mask_fits m P = not (eqb m 0) && eqb (above_bits m P) 0

-- numbers "have the high byte first": bytes as one number, after those that came to n; so the lowest bit of the last byte is its lowest
unfoldable pub number_from : ℕ → List ℕ → ℕ
number_from n [] = n
number_from n (b ∷ bs) = number_from (n * 256 + b) bs

-- the mask that the digits d of a frame 06 spell
abbrev pub mask_in : List ℕ → ℕ
mask_in d = number_from 0 (bytes_from d 1 mask_bytes)

-- the bytes of a number of eight bytes, the high byte first
unfoldable pub eight : ℕ → List ℕ
eight n = four (n / 4294967296) ++ four (n % 4294967296)
