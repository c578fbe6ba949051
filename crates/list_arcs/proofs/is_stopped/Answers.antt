use Prim.Native.Nat.{◌+◌}
use mathlib.Core.Path.{sym}
use native.Mathlib.Omega.{arith}
use lib.Dec.{ltb}
use borrow.Author.Tests.{ltb-true, ltb-false, lt-ltb, le-ltb}
use Rattle.ground.specs.Limits.{no_capacity}
use Rattle.net.specs.Net.{leaves_first}
use Rattle.ground.proofs.Tests.{or_next, and_next, below_is}
use Rattle.list_arcs.proofs.Judges.{and-false}
use Rattle.list_arcs.proofs.is_stopped.Goals as goal

pub returns-then-tokens-takes : goal.returns-then-tokens-takes
returns-then-tokens-takes c = rw (lt-ltb c.args.tokens c.args.takes (omega arith))

pub returns-then-most-from : goal.returns-then-most-from
returns-then-most-from c =
    or_next _ _ _ (le-ltb c.args.tokens c.args.takes (omega arith))
    (sym (and-false (ltb c.args.cap no_capacity) _ (le-ltb (c.args.cap + leaves_first c.args.mark c.args.takes) (c.args.tokens + c.args.puts) (omega arith))))

-- it is within its capacity, so that it is over where it rises above it
pub returns-then-cap-lt-NO_CAPACITY : goal.returns-then-cap-lt-NO_CAPACITY
returns-then-cap-lt-NO_CAPACITY c =
    or_next _ _ _ (le-ltb c.args.tokens c.args.takes (omega arith))
    (and_next _ _ _ (lt-ltb c.args.cap no_capacity (omega arith))
    (below_is _ (c.args.cap + leaves_first c.args.mark c.args.takes) (c.args.tokens + c.args.puts)
    (λ h. omega (arith, ltb-true, c.requires, c.rise-rise.ensures))
    (λ h. omega (arith, ltb-false, c.requires, c.rise-rise.ensures))))

pub returns : goal.returns
returns c = or_next _ _ _ (le-ltb c.args.tokens c.args.takes (omega arith)) (rw (le-ltb c.args.cap no_capacity (omega arith)))
