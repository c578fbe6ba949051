-- What an entry answers is handed over as it is. Assumes nothing.
use Prim.Native.Nat.{ℕ}
use mathlib.Core.Path.{◌≡◌, ap, ◌∙◌}
use mathlib.Core.Bool.{Bool}
use mathlib.Core.List.{List}
use Rattle.net.specs.Net.{Net}
use Rattle.refusals.specs.Given.{Answer}
use Rattle.replay.specs.Entry as replay
use Rattle.replay.specs.Entry.{replay_of, Replayed}
use Rattle.plays.specs.declared.Replay.{Replay}
use Rattle.c_replay.specs.Handed.{handed_replay, HandedReplay}
use Rattle.c_replay.specs.declared.ReplayAnswer.{ReplayAnswer}

pub hand_replay : (net : Net) (initial w : List ℕ) (within : Bool) (room : List ℕ) (r : ReplayAnswer) (a : Answer Replay) (room' : List ℕ) → r ≡ handed_replay (replay.numbers a) → Replayed net initial w within room a room' → HandedReplay (replay_of net initial w within room) r room'
hand_replay net initial w within room r a room' e h = record { answer = e ∙ ap handed_replay h.answer; left = h.left }
