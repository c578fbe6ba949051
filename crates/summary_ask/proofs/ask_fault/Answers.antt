use Rattle.refusals.proofs.Chains.{chain_first, chain_next}
use Rattle.summary_ask.specs.Ask.{ask_fault}
use Rattle.summary_ask.proofs.ask_fault.Goals as goal

pub returns-in_err-refuse : goal.returns-in_err-refuse
unfolding ask_fault
returns-in_err-refuse c = chain_first _ _ _ _ c.from_residual.ensures.1 (rw c.is_outside.ensures at c.in_err-refuse.ensures)

pub returns-in_err-marked_fault : goal.returns-in_err-marked_fault
unfolding ask_fault
returns-in_err-marked_fault c =
    chain_next _ _ _ _ (rw c.is_outside.ensures at c.in_ok-refuse.ensures)
    (chain_first _ _ _ _ c.from_residual-in_err-marked_fault.ensures.1 (rw c.same_count.ensures at c.in_err-marked_fault.ensures))

pub returns : goal.returns
unfolding ask_fault
returns c =
    chain_next _ _ _ _ (rw c.is_outside.ensures at c.in_ok-refuse.ensures)
    (chain_next _ _ _ _ (rw c.same_count.ensures at c.in_ok-marked_fault.ensures) c.shape_fault.ensures)
