use Rattle.std.specs.Prelude.{Ok}
use mathlib.Core.Path.{refl, ◌∙◌}
use Rattle.refusals.proofs.Chains.{chain_first, chain_next}
use Rattle.file_parts.proofs.Line.{finish_chain}
use Rattle.file_parts.proofs.finish.Goals as goal

pub returns-in_err-refuse-clause-value : goal.returns-in_err-refuse-clause-value
returns-in_err-refuse-clause-value c = chain_first _ (Ok c.args.s) _ _ c.from_residual.ensures.1 c.in_err-refuse.ensures ∙ finish_chain c.args.s

pub returns-clause-value : goal.returns-clause-value
returns-clause-value c = chain_next _ (Ok c.args.s) _ _ c.in_ok-refuse.ensures refl ∙ finish_chain c.args.s
