use Rattle.summary.proofs.Answers.{stretch_none, stretch_some}
use Rattle.summary.proofs.summary_stretch.Goals as goal

pub returns-in-None : goal.returns-in-None
returns-in-None c = stretch_none _ _ _ _ _ c.in-None.ensures.lookup.0 c.summary_part-in-None.ensures

pub returns-in-Some : goal.returns-in-Some
returns-in-Some c =
    let l = c.in-Some.ensures.lookup.0 in stretch_some _ _ _ _ _ _ l.0 l.1 l.2 c.summary_part.ensures
