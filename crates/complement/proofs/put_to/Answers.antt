use native.Mathlib.Omega.{arith}
use Rattle.net.proofs.Rule.{leaves_most}
use Rattle.complement.proofs.put_to.Goals as goal

-- whatever mark is handed on: so an edit of it is refused at the promise
pub overflow_sub-result-2 : goal.overflow_sub-result-2
overflow_sub-result-2 c = omega (arith, c.rise-rises.ensures, leaves_most c.args.mark c.args.takes, leaves_most 0 c.args.takes)
