use mathlib.Core.Path.{sym}
use Rattle.refusals.proofs.Chains.{chain_first, chain_next}
use Rattle.list_check.proofs.then_loose.Goals as goal

pub returns-in_err-next : goal.returns-in_err-next
returns-in_err-next c = chain_first _ _ _ _ c.from_residual.ensures.1 (sym c.in_err-next.was)

pub returns : goal.returns
returns c = chain_next _ _ _ _ (sym c.in_ok-next.was) c.loose_fault.ensures
