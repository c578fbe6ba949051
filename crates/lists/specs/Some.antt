-- Only for the code's walk, tied to what is published by proofs/Meaning.antt of closed and cover: whether some number below n passes a test, and whether none does.
use Rattle.std.specs.Prelude.{ℕ, Bool, ltb, leb}
use Rattle.ground.specs.Lists.{first}

-- some k < n has `f k`
unfoldable pub some : (ℕ → Bool) → ℕ → Bool
some f n = ltb (first f n) n

-- no k < n has `f k`
unfoldable pub none : (ℕ → Bool) → ℕ → Bool
none f n = leb n (first f n)
