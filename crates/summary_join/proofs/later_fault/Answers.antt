use mathlib.Core.Path.{sym}
use native.Mathlib.Omega.{arith}
use Rattle.summary_form.proofs.Shapes.{shape_sound}
use Rattle.refusals.proofs.Chains.{chain_first, chain_next}
use Rattle.summary_join.specs.Join.{later_fault}
use Rattle.summary_join.proofs.later_fault.Goals as goal

pub returns-in_err-shape_fault : goal.returns-in_err-shape_fault
unfolding later_fault
returns-in_err-shape_fault c = chain_first _ _ _ _ c.from_residual.ensures.1 c.in_err-shape_fault.ensures

pub returns : goal.returns
unfolding later_fault
returns c = chain_next _ _ _ _ c.in_ok-shape_fault.ensures c.refuse.ensures

pub overflow_add-letters : goal.overflow_add-letters
overflow_add-letters c = let few = (shape_sound c.args.b (sym c.in_ok-shape_fault.ensures)).0 in record { fits = omega (arith, c.requires) }
