use native.Mathlib.Omega.{arith}
use Rattle.net.specs.Lent.{lent}
use Rattle.wiring.proofs.Loose.{transitions_scanned, transition_next, transition_held, arc_is}
use borrow.Author.Rules.{rules}
use Rattle.wiring.proofs.is_loose_transition.Goals as goal

pub loop-p-init : goal.loop-p-init
loop-p-init c = search (transitions_scanned, rules)

pub returns-then-is_arc : goal.returns-then-is_arc
returns-then-is_arc c = let e = arc_is (lent c.args.sized.now.net) c.loop-p.p c.args.t _ _ _ c.pre_at.ensures c.post_at.ensures c.is_arc.ensures in transition_held (lent c.args.sized.now.net) c.args.t c.loop-p.p c.loop-p.invariant.1 _ e c.if-is_arc.true c.loop-p-test.true

pub loop-p-preserved : goal.loop-p-preserved
loop-p-preserved c = let e = arc_is (lent c.args.sized.now.net) c.loop-p.p c.args.t _ _ _ c.pre_at.ensures c.post_at.ensures c.is_arc.ensures in (omega (arith, c.loop-p-test.true), transition_next (lent c.args.sized.now.net) c.args.t c.loop-p.p c.loop-p.invariant.1 _ e c.if-is_arc.false)

pub returns : goal.returns
returns c = search (transitions_scanned, rules)
