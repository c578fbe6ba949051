use Rattle.refusals.specs.Given.{word_fault}
use Rattle.refusals.proofs.Chains.{found_refused, chain_first, chain_next}
use Rattle.refusals.proofs.word_fault.Goals as goal

pub returns-in_err-refuse : goal.returns-in_err-refuse
unfolding word_fault
returns-in_err-refuse c = chain_first _ _ _ _ c.from_residual.ensures.1 c.in_err-refuse.ensures

pub returns : goal.returns
unfolding word_fault
returns c = chain_next _ _ _ _ c.in_ok-refuse.ensures (found_refused _ _ 5 _ _ c.bad_letter.ensures c.refuse_found.ensures)
