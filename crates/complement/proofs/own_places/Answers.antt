use Rattle.complement.proofs.Written.{own_end}
use Rattle.complement.proofs.own_places.Goals as goal

pub returns : goal.returns
returns c = own_end c.loop-p.p c.loop-p.own c.loop-p.invariant c.loop-p-test.false
