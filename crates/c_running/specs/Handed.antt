-- To be believed: a running replay for C: the numbers of its answer, and the lent state as the entry leaves it.
use Rattle.std.specs.Prelude.{Ok, Err, ◌≡◌}
use Rattle.refusals.specs.Given.{Answer}
use Rattle.running.specs.Entry.{numbers}
use Rattle.running.specs.declared.Running.{Running}
use Rattle.running.specs.declared.Part.{Part}
use Rattle.running.specs.declared.Fed.{Fed}
use Rattle.c_replay.specs.Handed.{handed_replay}
use Rattle.c_replay.specs.declared.ReplayAnswer.{ReplayAnswer}

-- "A refusal leaves lent memory as found": a start that is refused leaves the state s; another leaves the state that it made
abbrev pub state_after : Answer Part → Running → Running → Running
state_after (Err r) made s = s
state_after (Ok p) made s = made

abbrev pub begun : Fed → Running → Fed
begun fed s = record { state = state_after fed.answer fed.state s; answer = fed.answer }

-- an answer and the state that it leaves, handed to C as r and in the lent state
pub record HandedPart (fed : Fed) (r : ReplayAnswer) (s : Running) : Type 0 where
  pub answer : r ≡ handed_replay (numbers fed.answer)
  pub state : s ≡ fed.state
