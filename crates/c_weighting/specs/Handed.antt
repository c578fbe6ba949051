-- To be believed: a bound for C.
use Rattle.std.specs.Prelude.{ℕ, cond, List}
use Rattle.c_weighting.specs.declared.BoundAnswer.{BoundAnswer}
use Rattle.c_answer.specs.Hand.{at, asked}

-- a bound's: the bound where there is one, else the cause's number or a refusal's position
unfoldable pub handed_bound : List ℕ → BoundAnswer
handed_bound ns = record { kind = at 0 ns; number = at 1 ns; position = cond (asked ns) 0 (at 2 ns); bound = cond (asked ns) (at 2 ns) 0 }
