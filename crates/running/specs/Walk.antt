-- Only for the code's walk: the numbers of a replay that was played fit 32 bits.
use Rattle.std.specs.Prelude.{◌^◌, ◌<◌}
use Rattle.plays.specs.declared.Replay.{Replay}
use Rattle.plays.specs.declared.Replay.TheVariants.{Fired, Blocked}
use Rattle.running.specs.State.{cause_place}

abbrev pub Brief : Replay → Type 0
Brief (Fired n) = n < 2 ^ 32
Brief (Blocked n why) = (n < 2 ^ 32) × (cause_place why < 2 ^ 32)
