-- To be believed: a marking list's answer for C.
use Rattle.std.specs.Prelude.{ℕ, List}
use Rattle.c_lists.specs.declared.ListNumbers.{ListNumbers}
use Rattle.c_answer.specs.Hand.{at}

-- a marking list's: the position is the marking's number; also the transition
unfoldable pub handed_list : List ℕ → ListNumbers
handed_list ns = record { kind = at 0 ns; number = at 1 ns; position = at 2 ns; transition = at 3 ns }
