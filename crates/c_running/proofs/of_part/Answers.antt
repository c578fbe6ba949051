use Rattle.c_replay.specs.Handed.{handed_replay}
use Rattle.c_running.proofs.of_part.Goals as goal

pub returns-in-Err : goal.returns-in-Err
unfolding handed_replay
returns-in-Err c = rw c.in-Err.is
