use mathlib.Core.Path.{ap, ◌∙◌}
use Rattle.c_answer.specs.Hand.{handed}
use Rattle.c_net.proofs.kaunorpi_complement_net.Goals as goal

pub returns : goal.returns
returns c = record { answer = c.of_net.ensures ∙ ap handed c.complement_net.ensures.answer; left = c.complement_net.ensures.left }
