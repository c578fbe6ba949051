-- Only for the code's walk, no answer is made of it.
use Rattle.std.specs.Prelude.{◌<◌, Ok, Err}
use Rattle.ground.specs.Limits.{count_limit}
use Rattle.net.specs.Firing.{cause_place}
use Rattle.plays.specs.declared.Replay.{Replay}
use Rattle.plays.specs.declared.Replay.TheVariants.{Fired, Blocked}
use Rattle.refusals.specs.Given.{Answer}

-- a place that an answer names is one of at most 64, so that it is one byte
abbrev pub Placed : Answer Replay → Type 0
Placed (Ok (Fired n)) = Unit {0}
Placed (Ok (Blocked i why)) = cause_place why < count_limit
Placed (Err r) = Unit {0}
