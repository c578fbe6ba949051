use mathlib.Core.Path.{sym}
use native.Mathlib.Omega.{arith}
use Rattle.net.proofs.Rule.{leaves_plain, leaves_pocket}
use Rattle.net.proofs.leaves.Goals as goal

pub returns-then-mark-eq0 : goal.returns-then-mark-eq0
returns-then-mark-eq0 c = sym (leaves_plain c.args.mark c.args.takes (omega (arith, c.if-mark-eq0.true)))

pub returns-else-mark-eq0 : goal.returns-else-mark-eq0
returns-else-mark-eq0 c = sym (leaves_pocket c.args.mark c.args.takes (λ e. omega (arith, c.if-mark-eq0.false e)))
