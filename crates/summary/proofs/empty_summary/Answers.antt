use mathlib.Core.Path.{ap}
use Rattle.std.specs.Prelude.{Ok}
use Rattle.refusals.proofs.Chains.{chain_first, chain_next}
use Rattle.summary.proofs.empty_summary.Goals as goal

pub returns-in_err-refuse : goal.returns-in_err-refuse
returns-in_err-refuse c = chain_first _ _ _ _ c.from_residual.ensures.1 (rw c.is_outside.ensures at c.in_err-refuse.ensures)

pub returns : goal.returns
returns c = chain_next _ _ _ _ (rw c.is_outside.ensures at c.in_ok-refuse.ensures) (ap Ok c.no_letters.ensures)
