use mathlib.Core.Path.{sym}
use borrow.Author.Tests.{ltb-false}
use Rattle.refusals.proofs.Chains.{chain_first, chain_next, refuse_sound}
use Rattle.running.specs.State.{letters_fault}
use Rattle.running.proofs.Faults.{letters_rest}
use Rattle.running.proofs.letters_fault.Goals as goal

pub returns-in_err-refuse : goal.returns-in_err-refuse
unfolding letters_fault
returns-in_err-refuse c = chain_first _ _ _ _ c.from_residual.ensures.1 c.in_err-refuse.ensures

pub returns : goal.returns
unfolding letters_fault
returns c =
    chain_next _ _ _ _ c.in_ok-refuse.ensures
    (letters_rest _ c.args.fired _ _ (ltb-false _ _ (refuse_sound _ 4 0 (sym c.in_ok-refuse.ensures))) c.word_fault.ensures)
