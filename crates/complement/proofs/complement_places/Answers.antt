use mathlib.Core.Path.{sym}
use Rattle.net.specs.Lent.{lent}
use Rattle.refusals.proofs.Chains.{chain_first, chain_next}
use Rattle.refusals.proofs.Refusals.{net_met}
use Rattle.complement.proofs.Answers.{told_of}
use Rattle.complement.proofs.complement_places.Goals as goal

pub returns-in_err-net_fault : goal.returns-in_err-net_fault
returns-in_err-net_fault c = told_of _ _ (chain_first _ _ _ _ c.from_residual.ensures.1 c.in_err-net_fault.ensures)

pub invariant_of-sized : goal.invariant_of-sized
invariant_of-sized c = record { sized = (net_met (lent c.args.net.now) _ (sym c.in_ok-net_fault.ensures)).sized }

pub returns-in_err-limit_fault : goal.returns-in_err-limit_fault
returns-in_err-limit_fault c =
    told_of _ _
    (chain_next _ _ _ _ c.in_ok-net_fault.ensures
    (chain_first _ _ _ _ c.from_residual-in_err-limit_fault.ensures.1 (rw c.count_places-wide.ensures at c.in_err-limit_fault.ensures)))

pub returns : goal.returns
returns c =
    told_of _ _
    (chain_next _ _ _ _ c.in_ok-net_fault.ensures
    (chain_next _ _ _ _ (rw c.count_places-wide.ensures at c.in_ok-limit_fault.ensures) (rw c.count_places-wide.ensures)))
