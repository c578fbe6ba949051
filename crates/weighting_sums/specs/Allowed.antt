-- To be believed: what 01 asks of the entries of a weighting.
use Rattle.std.specs.Prelude.{ℕ, ◌≡◌, List, ℤ, pos}
use Rattle.weighting_sums.specs.Weighting.{entry}

-- 8 unless: not "a weighting all zero"
abbrev pub SomeEntry : List ℤ → Type 0
SomeEntry y = ((k : ℕ) → entry y k ≡ pos 0) → ⊥
