-- Only for the code's walk, no answer is made of it: two unsigned sums along one line of the tables, a row for a transition or a column for a place.
use Rattle.std.specs.Prelude.{ℕ, zero, suc, ◌+◌, ◌*◌, ◌≤◌, ◌<◌, Bool, not, List, length, get_or, ℤ, pos, ◌-ℤ◌, ◌*ℤ◌}
use Rattle.ground.specs.Limits.{count_limit, no_capacity, entry_limit}
use Rattle.ground.specs.Parts.{up, dn}
use Rattle.net.specs.Net.{Net}
use Rattle.weighting_sums.specs.Weighting.{sum, entry}
use Rattle.weighting_sums.specs.Tests.{is_zero}
use Rattle.weighting_sums.specs.declared.Sums.{Sums}

-- the sum over k < n of f k, of numbers
unfoldable pub total : ℕ → (ℕ → ℕ) → ℕ
total zero f = 0
total (suc n) f = total n f + f n

-- no part of an entry times a number of 16 bits (a weight, or tokens) is more
abbrev pub product_limit : ℕ
product_limit = entry_limit * no_capacity

-- what the entry x adds to what is gained, x > 0 by what is put and x < 0 by what is taken; with takes and puts exchanged, to what is lost
abbrev pub share : ℤ → ℕ → ℕ → ℕ
share x takes puts = up x * puts + dn x * takes

abbrev pub share_limit : ℕ
share_limit = product_limit + product_limit

-- entry k of a line that starts at `start` and whose entries are `step` apart
abbrev pub cell : List ℕ → ℕ → ℕ → ℕ → ℕ
cell l start step k = get_or l (start + k * step) 0

-- the sum along a line: entry times change
unfoldable pub line_sum : Net → List ℤ → ℕ → ℕ → ℤ
line_sum net y start step = sum (length y) (λ k. entry y k *ℤ (pos (cell net.post start step k) -ℤ pos (cell net.pre start step k)))

-- it is not 0
abbrev pub line_fails : Net → List ℤ → ℕ → ℕ → Bool
line_fails net y start step = not (is_zero (line_sum net y start step))

-- the sum that the two unsigned ones stand for
abbrev pub signed : Sums → ℤ
signed s = pos s.gained -ℤ pos s.lost

-- a line of n entries inside a list of `size`
pub record Line (start step n size : ℕ) : Type 0 where
  pub few : n ≤ count_limit
  pub inside : (k : ℕ) → k < n → start + k * step < size

-- so many lines of n entries, each `apart` from the one before
pub record Lines (lines apart step n size : ℕ) : Type 0 where
  pub few : n ≤ count_limit
  pub some : 1 ≤ n
  pub inside : (i k : ℕ) → i < lines → k < n → i * apart + k * step < size

-- what place p adds to the sum of y x marking where no entry is negative
abbrev pub held : List ℤ → List ℕ → ℕ → ℕ
held y m p = up (entry y p) * get_or m p 0
