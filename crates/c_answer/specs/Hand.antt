-- To be believed: what C is handed: document 01's numbers of an answer, each in its field, and 0 where the answer has no such number.
use Rattle.std.specs.Prelude.{ℕ, Bool, ◌&&◌, List, get_or, eqb}
use Rattle.c_answer.specs.declared.Answer.{Answer}

-- the number at i of an answer, or 0 where it has none
abbrev pub at : ℕ → List ℕ → ℕ
at i numbers = get_or numbers i 0

-- kind, number and position
unfoldable pub handed : List ℕ → Answer
handed ns = record { kind = at 0 ns; number = at 1 ns; position = at 2 ns }

-- 81 00: the answer has what was asked for, and its third number is that and no position
abbrev pub asked : List ℕ → Bool
asked ns = eqb (at 0 ns) 0x81 && eqb (at 1 ns) 0
