use mathlib.Core.Path.{sym}
use Rattle.net.specs.Lent.{lent}
use Rattle.sets.proofs.Allowed.{allowed_of}
use Rattle.sets.proofs.siphon_set.Goals as goal

pub invariant_of-sized : goal.invariant_of-sized
invariant_of-sized c = record { sized = (allowed_of (lent c.args.net.now) c.args.set.now (sym c.in_ok-set_fault.ensures)).sized }

pub judge_set-requires : goal.judge_set-requires
judge_set-requires c = (allowed_of (lent c.args.net.now) c.args.set.now (sym c.in_ok-set_fault.ensures)).long
