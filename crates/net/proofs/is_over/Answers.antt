use Prim.Native.Nat.{◌+◌}
use native.Mathlib.Omega.{arith}
use borrow.Author.Tests.{ltb-true, ltb-false, leb-true, leb-false, lt-ltb}
use Rattle.ground.specs.Limits.{no_capacity}
use Rattle.net.specs.Net.{leaves_first}
use Rattle.ground.proofs.Tests.{tests, below_is, and_next}
use borrow.Author.Rules.{rules}
use Rattle.net.proofs.is_over.Goals as goal

pub returns-then-cap-from : goal.returns-then-cap-from
returns-then-cap-from c =
    and_next _ _ _ (lt-ltb c.args.cap no_capacity (omega arith))
    (below_is _ (c.args.cap + leaves_first c.args.mark c.args.takes) (c.args.tokens + c.args.puts)
    (λ h. omega (arith, ltb-true, leb-true))
    (λ h. omega (arith, ltb-false, leb-false)))

pub returns : goal.returns
returns c = search (tests, rules)
