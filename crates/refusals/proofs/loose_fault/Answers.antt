use Rattle.net.specs.Lent.{lent}
use Rattle.refusals.specs.Given.{loose_fault}
use Rattle.refusals.proofs.Chains.{chain_first, chain_next, found_refused, refused_behind}
use Rattle.refusals.proofs.Refusals.{loose_few}
use Rattle.refusals.proofs.loose_fault.Goals as goal

pub returns-in_err-refuse_found : goal.returns-in_err-refuse_found
unfolding loose_fault
returns-in_err-refuse_found c =
    chain_first _ _ _ _ c.from_residual.ensures.1 (found_refused _ _ 17 _ _ c.loose_place.ensures c.in_err-refuse_found.ensures)

pub behind_places-requires : goal.behind_places-requires
behind_places-requires c = loose_few (lent c.args.sized.now.net) _ c.args.sized.now.sized c.loose_transition.ensures

pub returns : goal.returns
unfolding loose_fault
returns c =
    chain_next _ _ _ _ (found_refused _ _ 17 _ _ c.loose_place.ensures c.in_ok-refuse_found.ensures)
    (refused_behind _ _ 17 _ _ _ c.loose_transition.ensures c.behind_places.ensures c.refuse_found-2.ensures)
