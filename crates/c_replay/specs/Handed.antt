-- To be believed: a replay for C: the numbers of its answer, and the room as the entry leaves it.
use Rattle.std.specs.Prelude.{ℕ, ◌≡◌, List}
use Rattle.replay.specs.Entry as replay
use Rattle.replay.specs.Entry.{Answered}
use Rattle.c_replay.specs.declared.ReplayAnswer.{ReplayAnswer}
use Rattle.c_answer.specs.Hand.{at}

-- a replay's: also the place of its cause
unfoldable pub handed_replay : List ℕ → ReplayAnswer
handed_replay ns = record { kind = at 0 ns; number = at 1 ns; position = at 2 ns; place = at 3 ns }

-- a replay's answer and the marking that it leaves, handed to C as r and in the room
pub record HandedReplay (asked : Answered) (r : ReplayAnswer) (room' : List ℕ) : Type 0 where
  pub answer : r ≡ handed_replay (replay.numbers asked.answer)
  pub left : room' ≡ asked.left
