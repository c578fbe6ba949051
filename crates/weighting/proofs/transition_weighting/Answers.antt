use mathlib.Core.Path.{sym}
use Rattle.net.specs.Lent.{lent}
use Rattle.weighting.proofs.Allowed.{allowed_of}
use Rattle.weighting.proofs.transition_weighting.Goals as goal

pub invariant_of-lowest_place : goal.invariant_of-lowest_place
invariant_of-lowest_place c = record { sized = (allowed_of (lent c.args.net.now) c.args.net.now.transitions c.args.x.now (sym c.in_ok-weighting_fault.ensures)).sized }

pub lowest_place-requires : goal.lowest_place-requires
lowest_place-requires c = (allowed_of (lent c.args.net.now) c.args.net.now.transitions c.args.x.now (sym c.in_ok-weighting_fault.ensures)).long
