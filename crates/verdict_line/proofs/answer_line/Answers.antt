use Rattle.std.specs.Prelude.{Err}
use mathlib.Core.List.{[]}
use native.Mathlib.Omega.{arith}
use Rattle.verdict_text.proofs.Answers.{line_few}
use Rattle.verdict_line.proofs.answer_line.Goals as goal

pub returns-in-Err-clause-few : goal.returns-in-Err-clause-few
returns-in-Err-clause-few c = omega (arith, c.write_refused.ensures.next, line_few (Err c.in-Err.why) [] (omega arith))
