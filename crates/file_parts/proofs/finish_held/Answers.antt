use mathlib.Core.Path.{◌∙◌}
use Rattle.refusals.proofs.Chains.{chain_first, chain_next}
use Rattle.file_line.proofs.Judging.{err_is}
use Rattle.file_parts.proofs.Buffer.{end_stopped, end_chain}
use Rattle.file_parts.proofs.finish_held.Goals as goal

pub returns-in_err-s-clause-value : goal.returns-in_err-s-clause-value
returns-in_err-s-clause-value c = err_is _ _ c.from_residual.ensures.1 ∙ end_stopped _ c.requires _ c.in_err-s.was

pub returns-in_err-refuse-clause-value : goal.returns-in_err-refuse-clause-value
returns-in_err-refuse-clause-value c = chain_first _ _ _ _ c.from_residual-in_err-refuse.ensures.1 c.in_err-refuse.ensures ∙ end_chain _ c.requires _ c.in_ok-s.was

pub returns-clause-value : goal.returns-clause-value
returns-clause-value c = chain_next _ _ _ _ c.in_ok-refuse.ensures c.finish.ensures.value ∙ end_chain _ c.requires _ c.in_ok-s.was
