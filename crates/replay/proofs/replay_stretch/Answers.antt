use Rattle.replay.proofs.Answers.{stretch_none}
use Rattle.replay.proofs.replay_stretch.Goals as goal

pub returns-in-None : goal.returns-in-None
returns-in-None c = stretch_none _ _ _ _ _ _ _ _ c.in-None.ensures.lookup.0 c.replay_part-in-None.ensures
