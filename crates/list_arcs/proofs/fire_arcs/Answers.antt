use native.Mathlib.Omega.{arith}
use Rattle.net.specs.Lent.{lent}
use Rattle.list_arcs.proofs.Moves.{firing_enough, firing_next, firing_end}
use Rattle.list_arcs.proofs.fire_arcs.Goals as goal

pub moved-requires : goal.moved-requires
moved-requires c =
    rw c.takes-takes.ensures
    (firing_enough (lent c.args.sized.now.net) c.args.listed.now c.args.t c.requires.listed_len.0 c.next_place-p.result c.args.sized.now.sized c.requires.listed_len.1 c.requires.listed_value)

pub loop-p-preserved : goal.loop-p-preserved
loop-p-preserved c = (
  omega (arith, c.next_place-p.ensures.less, c.loop-p.invariant.0),
  firing_next (lent c.args.sized.now.net) c.args.listed.now c.args.t c.requires.listed_len.0 c.loop-p.p c.next_place-p.result c.loop-p.invariant.0 c.next_place-p.ensures _ _ c.loop-p.invariant.1
      (rw (c.takes-takes.ensures, c.puts-puts.ensures) at c.moved.ensures),
)

pub returns : goal.returns
returns c = firing_end (lent c.args.sized.now.net) c.args.listed.now c.args.t c.requires.listed_len.0 c.loop-p.p _ c.loop-p.invariant.1 (omega (arith, c.loop-p-test.false))
