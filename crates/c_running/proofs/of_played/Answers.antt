use Rattle.c_replay.specs.Handed.{handed_replay}
use Rattle.c_running.proofs.of_played.Goals as goal

pub returns-in-Fired : goal.returns-in-Fired
unfolding handed_replay
returns-in-Fired c = rw c.in-Fired.is

pub returns-in-Blocked : goal.returns-in-Blocked
unfolding handed_replay
returns-in-Blocked c = rw c.in-Blocked.is
