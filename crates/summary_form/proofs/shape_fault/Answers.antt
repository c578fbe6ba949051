use Rattle.summary_form.specs.Summary.{shape_fault}
use Rattle.refusals.proofs.Chains.{chain_first, chain_next, found_refused}
use Rattle.summary_form.proofs.shape_fault.Goals as goal

pub returns-in_err-refuse : goal.returns-in_err-refuse
unfolding shape_fault
returns-in_err-refuse c = chain_first _ _ _ _ c.from_residual.ensures.1 c.in_err-refuse.ensures

pub returns : goal.returns
unfolding shape_fault
returns c = chain_next _ _ _ _ c.in_ok-refuse.ensures (found_refused _ _ _ _ _ c.bad_slot.ensures c.refuse_found.ensures)
