use Rattle.c_summary_answer.specs.Summaries.{handed_summary}
use Rattle.c_summary_answer.proofs.of_summed.Goals as goal

pub returns-in-Ok : goal.returns-in-Ok
unfolding handed_summary
returns-in-Ok c = rw c.in-Ok.is

pub returns-in-Err : goal.returns-in-Err
unfolding handed_summary
returns-in-Err c = rw c.in-Err.is
