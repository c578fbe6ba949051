use Rattle.net.specs.Lent.{arcs_in}
use Rattle.net.proofs.Letters.{cause_short, cause_over}
use Rattle.net.proofs.why_stopped.Goals as goal

pub returns-in-Some : goal.returns-in-Some
returns-in-Some c = cause_short (arcs_in c.args.arcs.now) c.args.marking.now _ c.in-Some.ensures

pub returns-in-None : goal.returns-in-None
returns-in-None c = cause_over (arcs_in c.args.arcs.now) c.args.marking.now _ c.in-None.ensures c.lowest_over.ensures
