use Rattle.c_answer.specs.Hand.{handed}
use Rattle.c_summary_ask.proofs.Asked.{said_handed}
use Rattle.c_summary_ask.proofs.of_asked.Goals as goal

pub returns-in-Ok : goal.returns-in-Ok
returns-in-Ok c = rw c.in-Ok.is (said_handed _ _ c.said.ensures)

pub returns-in-Err : goal.returns-in-Err
unfolding handed
returns-in-Err c = rw c.in-Err.is
