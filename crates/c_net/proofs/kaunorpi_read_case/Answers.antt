use mathlib.Core.Path.{ap, ◌∙◌}
use Rattle.c_net.specs.Cases.{handed_case}
use Rattle.c_net.proofs.kaunorpi_read_case.Goals as goal

pub returns : goal.returns
returns c = record { answer = c.of_case.ensures ∙ ap handed_case c.read_case.ensures.answer; left = c.read_case.ensures.left }
