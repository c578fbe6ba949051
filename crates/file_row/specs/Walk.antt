-- Only for the code's walk, no answer is made of it: one weight of a frame, and rows that a frame of a kind can hold.
use Rattle.std.specs.Prelude.{ℕ, ◌≤◌, ◌<◌, ◌≡◌, false, cond, List, length, get_or, eqb}
use Rattle.file_digits.specs.Frame.{byte_at, word_at}
use Rattle.file_row.specs.Row.{byte_limit, wide_row}

-- the weight from byte i on of a frame of kind k
unfoldable pub weight_at : ℕ → List ℕ → ℕ → ℕ
weight_at k d i = cond (eqb k wide_row) (word_at d i) (byte_at d i)

-- unless the frame is wide, each weight of the row fits a byte
pub record Fit (k : ℕ) (weights : List ℕ) : Type 0 where
  pub narrow : eqb k wide_row ≡ false → (p : ℕ) → p < length weights → get_or weights p 0 ≤ byte_limit
