-- To be believed: the complement net's answers for C.
use Rattle.std.specs.Prelude.{ℕ, ◌≡◌, cond, List}
use Rattle.complement.specs.Entry as complement
use Rattle.complement.specs.Entry.{Rooms, Wrote}
use Rattle.c_answer.specs.declared.Answer.{Answer}
use Rattle.c_net.specs.declared.PlacesAnswer.{PlacesAnswer}
use Rattle.c_answer.specs.Hand.{at, asked, handed}

-- the complement net's place count, else a refusal's position
unfoldable pub handed_places : List ℕ → PlacesAnswer
handed_places ns = record { kind = at 0 ns; number = at 1 ns; position = cond (asked ns) 0 (at 2 ns); places = cond (asked ns) (at 2 ns) 0 }

-- the complement net's answer and its rooms
pub record HandedNet (wrote : Wrote) (r : Answer) (rooms' : Rooms) : Type 0 where
  pub answer : r ≡ handed (complement.numbers wrote.answer)
  pub left : rooms' ≡ wrote.left
