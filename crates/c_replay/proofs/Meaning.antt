-- What C is handed: the promise has one answer and one content of the room; nothing of an answer is lost on the way. Assumes nothing.
use Rattle.std.specs.Prelude.{Result, Ok, Err}
use Rattle.refusals.specs.Given.{refused}
use Rattle.refusals.specs.declared.Refusal.{Refusal}
use Prim.Native.Nat.{ℕ}
use mathlib.Core.Path.{◌≡◌, refl, sym, ◌∙◌}
use mathlib.Core.Bool.{cond}
use mathlib.Core.List.{List}
use lib.Dec.{eqb}
use Rattle.net.specs.declared.Cause.TheVariants.{Short, Over}
use Rattle.replay.specs.Entry as replay
use Rattle.replay.specs.Entry.{Answered}
use Rattle.plays.specs.declared.Replay.{Replay}
use Rattle.plays.specs.declared.Replay.TheVariants as ran
use Rattle.c_replay.specs.Handed.{handed_replay, HandedReplay}
use Rattle.c_replay.specs.declared.ReplayAnswer.{ReplayAnswer}

pub unique_replay : (x : Answered) (r r' : ReplayAnswer) (m m' : List ℕ) → HandedReplay x r m → HandedReplay x r' m' → (r ≡ r') × (m ≡ m')
unique_replay x r r' m m' a b = (a.answer ∙ sym b.answer, a.left ∙ sym b.left)

abbrev pub replay_of : ReplayAnswer → Result Replay Refusal
replay_of r =
    cond (eqb r.kind 0x82) (refused r.number r.position)
    (cond (eqb r.number 0) (Ok (ran.Fired r.position))
    (cond (eqb r.number 1) (Ok (ran.Blocked r.position (Short r.place))) (Ok (ran.Blocked r.position (Over r.place)))))

pub replay_whole : (a : Result Replay Refusal) → replay_of (handed_replay (replay.numbers a)) ≡ a
unfolding handed_replay
replay_whole (Ok (ran.Fired n)) = refl
replay_whole (Ok (ran.Blocked i (Short p))) = refl
replay_whole (Ok (ran.Blocked i (Over p))) = refl
replay_whole (Err r) = refl
