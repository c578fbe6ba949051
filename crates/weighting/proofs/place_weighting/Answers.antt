use mathlib.Core.Path.{sym}
use Rattle.net.specs.Lent.{lent}
use Rattle.weighting.proofs.Allowed.{allowed_of}
use Rattle.weighting.proofs.place_weighting.Goals as goal

pub invariant_of-lowest_transition : goal.invariant_of-lowest_transition
invariant_of-lowest_transition c = record { sized = (allowed_of (lent c.args.net.now) c.args.net.now.places c.args.y.now (sym c.in_ok-weighting_fault.ensures)).sized }

pub lowest_transition-requires : goal.lowest_transition-requires
lowest_transition-requires c = (allowed_of (lent c.args.net.now) c.args.net.now.places c.args.y.now (sym c.in_ok-weighting_fault.ensures)).long
