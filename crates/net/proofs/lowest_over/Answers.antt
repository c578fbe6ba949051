use Rattle.net.specs.Lent.{arcs_in}
use lib.ListN.{length}
use Rattle.net.specs.Letter.{over}
use Rattle.ground.proofs.Scan.{scan_hit, scan_next, scans}
use Rattle.net.proofs.Letters.{small_at}
use borrow.Author.Rules.{rules}
use Rattle.net.proofs.lowest_over.Goals as goal

pub loop-p-init : goal.loop-p-init
loop-p-init c = search (scans, rules)

pub is_over-requires : goal.is_over-requires
is_over-requires c = search (small_at, rules)

pub returns-then-is_over : goal.returns-then-is_over
returns-then-is_over c = scan_hit (over (arcs_in c.args.arcs.now) c.args.marking.now) (length c.args.marking.now) c.loop-p.p _ c.loop-p.invariant.1 c.is_over.ensures (search rules) (search rules)

pub loop-p-preserved : goal.loop-p-preserved
loop-p-preserved c = (search rules, scan_next (over (arcs_in c.args.arcs.now) c.args.marking.now) c.loop-p.p _ c.loop-p.invariant.1 c.is_over.ensures (search rules))

pub returns : goal.returns
returns c = search (scans, rules)
