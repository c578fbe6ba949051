use mathlib.Core.Path.{sym}
use Rattle.net.specs.Lent.{lent}
use Rattle.weighting_bound.proofs.Allowed.{bound_allowed_of}
use Rattle.weighting_bound.proofs.place_bound.Goals as goal

pub invariant_of-find_bound : goal.invariant_of-find_bound
invariant_of-find_bound c = record { sized = (bound_allowed_of (lent c.args.net.now) c.args.initial.now c.args.y.now c.args.place (sym c.in_ok-bound_fault.ensures)).sized }

pub find_bound-requires : goal.find_bound-requires
find_bound-requires c =
    let a = bound_allowed_of (lent c.args.net.now) c.args.initial.now c.args.y.now c.args.place (sym c.in_ok-bound_fault.ensures) in
    record { initial_len = a.marked; y_len = a.long; place_lt_places = a.below }
