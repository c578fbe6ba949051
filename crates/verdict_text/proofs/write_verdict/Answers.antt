use native.Mathlib.Omega.{arith}
use Rattle.verdict_text.proofs.Answers.{line_few}
use Rattle.verdict_text.proofs.write_verdict.Goals as goal

pub returns-clause-few : goal.returns-clause-few
returns-clause-few c = omega (arith, line_few c.args.answer c.args.marking.now c.requires.1)
