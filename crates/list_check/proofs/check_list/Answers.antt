use mathlib.Core.Path.{sym, ap}
use Rattle.std.specs.Prelude.{Ok}
use Rattle.net.specs.Lent.{lent}
use Rattle.refusals.proofs.Chains.{chain_first, chain_next}
use Rattle.lists.specs.declared.ListAnswer.{ListAnswer}
use Rattle.list_check.specs.Given.{list_of}
use Rattle.list_check.proofs.Refusals.{lent_of, kept_of}
use Rattle.list_check.proofs.check_list.Goals as goal

pub returns-in_err-find_fault : goal.returns-in_err-find_fault
unfolding list_of
returns-in_err-find_fault c = chain_first _ _ _ _ c.from_residual.ensures.1 c.in_err-find_fault.ensures

pub look_through-requires : goal.look_through-requires
look_through-requires c =
    let l = lent_of c.args.kind (lent c.args.net.now) c.args.initial.now c.args.list.now c.args.fits c.args.next (sym c.in_ok-find_fault.ensures) in
    record { ready = l.ready; initial_len = l.start; list_bound = l.some.many; kept = kept_of _ _ _ _ _ _ l }

pub returns : goal.returns
unfolding list_of
returns c = chain_next _ _ _ _ c.in_ok-find_fault.ensures (ap (λ (a : ListAnswer). Ok a) c.look_through.ensures)
