use mathlib.Core.Path.{sym}
use native.Mathlib.Omega.{arith}
use Rattle.net.proofs.Rule.{force_capped, force_uncapped}
use Rattle.net.proofs.mark_in_force.Goals as goal

pub returns-then-cap-lt-NO_CAPACITY : goal.returns-then-cap-lt-NO_CAPACITY
returns-then-cap-lt-NO_CAPACITY c = sym (force_capped c.args.cap c.args.mark (omega (arith, c.if-cap-lt-NO_CAPACITY.true)))

pub returns-else-cap-lt-NO_CAPACITY : goal.returns-else-cap-lt-NO_CAPACITY
returns-else-cap-lt-NO_CAPACITY c = sym (force_uncapped c.args.cap c.args.mark (omega (arith, c.if-cap-lt-NO_CAPACITY.false)))
