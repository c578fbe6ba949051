use Prim.Native.Nat.{◌+◌}
use mathlib.Core.Path.{sym}
use native.Mathlib.Omega.{arith}
use borrow.Author.Tests.{ltb-true, ltb-false, leb-true, leb-false, lt-ltb}
use Rattle.ground.proofs.Tests.{below_is}
use Rattle.wiring.proofs.is_arc.Goals as goal

pub returns-then-takes-eq0 : goal.returns-then-takes-eq0
returns-then-takes-eq0 c =
    below_is _ 0 (c.args.takes + c.args.puts)
    (λ h. omega (arith, ltb-true, leb-true, c.if-takes-eq0.true))
    (λ h. omega (arith, ltb-false, leb-false, c.if-takes-eq0.true))

pub returns : goal.returns
returns c = sym (lt-ltb 0 (c.args.takes + c.args.puts) (omega (arith, c.if-takes-eq0.false)))
