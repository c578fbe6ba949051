use native.Mathlib.Omega.{arith}
use Rattle.net.specs.Lent.{lent}
use Rattle.net.proofs.Rows.{pre_end}
use Rattle.list_arcs.proofs.Nexts.{skip_most, next_is}
use Rattle.list_arcs.proofs.next_place.Goals as goal

pub overflow_sub-result : goal.overflow_sub-result
overflow_sub-result c = omega (arith, c.from.ensures, skip_most _ _ _ _ c.requires.skips c.args.t c.args.p (pre_end (lent c.args.sized.now.net) c.args.skips.now c.args.t c.args.sized.now.sized c.requires.t_lt_transitions) c.requires.p_inside.0 c.requires.p_inside.1)

pub returns : goal.returns
returns c = next_is _ _ _ _ c.requires.skips c.args.t c.args.p (pre_end (lent c.args.sized.now.net) c.args.skips.now c.args.t c.args.sized.now.sized c.requires.t_lt_transitions) c.requires.p_inside.0 c.requires.p_inside.1 _ (rw c.from.ensures)
