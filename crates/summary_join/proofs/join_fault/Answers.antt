use mathlib.Core.Path.{sym}
use Rattle.refusals.proofs.Chains.{chain_first, chain_next}
use Rattle.summary_form.proofs.Shapes.{shape_sound}
use Rattle.summary_join.specs.Join.{join_fault}
use Rattle.summary_join.proofs.join_fault.Goals as goal

pub returns-in_err-refuse : goal.returns-in_err-refuse
unfolding join_fault
returns-in_err-refuse c = chain_first _ _ _ _ c.from_residual.ensures.1 (rw c.are_outside.ensures at c.in_err-refuse.ensures)

pub returns-in_err-refuse-2 : goal.returns-in_err-refuse-2
unfolding join_fault
returns-in_err-refuse-2 c =
    chain_next _ _ _ _ (rw c.are_outside.ensures at c.in_ok-refuse.ensures)
    (chain_first _ _ _ _ c.from_residual-in_err-refuse-2.ensures.1 c.in_err-refuse-2.ensures)

pub returns-in_err-shape_fault : goal.returns-in_err-shape_fault
unfolding join_fault
returns-in_err-shape_fault c =
    chain_next _ _ _ _ (rw c.are_outside.ensures at c.in_ok-refuse.ensures)
    (chain_next _ _ _ _ c.in_ok-refuse-2.ensures (chain_first _ _ _ _ c.from_residual-in_err-shape_fault.ensures.1 c.in_err-shape_fault.ensures))

pub later_fault-requires : goal.later_fault-requires
later_fault-requires c = (shape_sound c.args.a (sym c.in_ok-shape_fault.ensures)).0

pub returns : goal.returns
unfolding join_fault
returns c =
    chain_next _ _ _ _ (rw c.are_outside.ensures at c.in_ok-refuse.ensures)
    (chain_next _ _ _ _ c.in_ok-refuse-2.ensures (chain_next _ _ _ _ c.in_ok-shape_fault.ensures c.later_fault.ensures))
