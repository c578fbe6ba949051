-- To be believed: what the theorems on a case file speak of: the fronts of rooms, and the lines of 01's whole case.
use Rattle.std.specs.Prelude.{ℕ, ◌≡◌, List, [], ◌∷◌, take, drop}

-- the n entries at the front of the room are those of y, and the rest is as found in x
pub record Front (n : ℕ) (y x room : List ℕ) : Type 0 where
  pub front : take n room ≡ take n y
  pub rest : drop n room ≡ drop n x

-- "One whole case": its lines
-- 010303
abbrev pub case1 : List ℕ
case1 = 48 ∷ 49 ∷ 48 ∷ 51 ∷ 48 ∷ 51 ∷ 10 ∷ []

-- 02FFFFFFFF0005
abbrev pub case2 : List ℕ
case2 = 48 ∷ 50 ∷ 70 ∷ 70 ∷ 70 ∷ 70 ∷ 70 ∷ 70 ∷ 70 ∷ 70 ∷ 48 ∷ 48 ∷ 48 ∷ 53 ∷ 10 ∷ []

-- 03000100000000
abbrev pub case3 : List ℕ
case3 = 48 ∷ 51 ∷ 48 ∷ 48 ∷ 48 ∷ 49 ∷ 48 ∷ 48 ∷ 48 ∷ 48 ∷ 48 ∷ 48 ∷ 48 ∷ 48 ∷ 10 ∷ []

-- 0400010000000100
abbrev pub case4 : List ℕ
case4 = 48 ∷ 52 ∷ 48 ∷ 48 ∷ 48 ∷ 49 ∷ 48 ∷ 48 ∷ 48 ∷ 48 ∷ 48 ∷ 48 ∷ 48 ∷ 49 ∷ 48 ∷ 48 ∷ 10 ∷ []

-- 0401000100010002
abbrev pub case5 : List ℕ
case5 = 48 ∷ 52 ∷ 48 ∷ 49 ∷ 48 ∷ 48 ∷ 48 ∷ 49 ∷ 48 ∷ 48 ∷ 48 ∷ 49 ∷ 48 ∷ 48 ∷ 48 ∷ 50 ∷ 10 ∷ []

-- 0402000003000000
abbrev pub case6 : List ℕ
case6 = 48 ∷ 52 ∷ 48 ∷ 50 ∷ 48 ∷ 48 ∷ 48 ∷ 48 ∷ 48 ∷ 51 ∷ 48 ∷ 48 ∷ 48 ∷ 48 ∷ 48 ∷ 48 ∷ 10 ∷ []

-- 050001000102
abbrev pub case7 : List ℕ
case7 = 48 ∷ 53 ∷ 48 ∷ 48 ∷ 48 ∷ 49 ∷ 48 ∷ 48 ∷ 48 ∷ 49 ∷ 48 ∷ 50 ∷ 10 ∷ []
