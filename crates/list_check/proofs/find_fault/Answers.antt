use mathlib.Core.Path.{sym}
use Rattle.net.specs.Lent.{lent}
use Rattle.refusals.proofs.Chains.{chain_first, chain_next}
use Rattle.refusals.proofs.Refusals.{start_met}
use Rattle.list_check.specs.Given.{given_fault}
use Rattle.list_check.proofs.find_fault.Goals as goal

pub returns-in_err-start_fault : goal.returns-in_err-start_fault
unfolding given_fault
returns-in_err-start_fault c = chain_first _ _ _ _ c.from_residual.ensures.1 (rw c.is_fitting-agree.ensures at c.in_err-start_fault.ensures)

pub invariant_of-then_loose : goal.invariant_of-then_loose
invariant_of-then_loose c = record { sized = (start_met (lent c.args.net.now) c.args.initial.now _ (sym c.in_ok-start_fault.ensures)).sized }

pub list_fault-requires : goal.list_fault-requires
list_fault-requires c =
    let s = (start_met (lent c.args.net.now) c.args.initial.now _ (sym c.in_ok-start_fault.ensures)).sized in
    record { le_places = (s.some_places, s.few_places); caps_len = s.capped }

pub returns : goal.returns
unfolding given_fault
returns c =
    chain_next _ _ _ _ (rw c.is_fitting-agree.ensures at c.in_ok-start_fault.ensures) (rw c.then_loose-later.ensures at c.list_fault.ensures)
