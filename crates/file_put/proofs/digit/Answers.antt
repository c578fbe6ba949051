use native.Mathlib.Omega.{arith}
use mathlib.Core.Path.{sym}
use Rattle.file_put.proofs.Round.{digit_num, digit_letter}
use Rattle.file_put.proofs.digit.Goals as goal

pub returns-in-0-to-9 : goal.returns-in-0-to-9
returns-in-0-to-9 c = sym (digit_num _ (omega arith))

pub returns-in_default : goal.returns-in_default
returns-in_default c = omega (arith, digit_letter c.args.n (omega arith))
