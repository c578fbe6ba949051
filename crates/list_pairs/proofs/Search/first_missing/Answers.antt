use mathlib.Core.Path.{refl}
use Rattle.ground.proofs.Scan.{scan_start}
use Rattle.lists.proofs.Pairs.{results_found, marking_passes, results_none}
use Rattle.list_pairs.specs.Search.{missing_in}
use Rattle.list_pairs.proofs.Search.first_missing.Goals as goal

pub markings-init : goal.markings-init
markings-init c = (c.requires.room_len, (refl, scan_start _))

pub markings-preserved : goal.markings-preserved
markings-preserved c = (
  c.loop-t.invariant.0,
  (
    c.loop-t.invariant.1.0,
    marking_passes (missing_in c.args.self.now) c.args.self.now.net.now.transitions c.markings.k c.markings.invariant.1.1 c.loop-t.t c.loop-t.invariant.1.1 c.loop-t.auto.t-end c.loop-t-test.false,
  ),
)

pub returns-then-is_missing : goal.returns-then-is_missing
returns-then-is_missing c =
    results_found (missing_in c.args.self.now) c.args.self.now.net.now.transitions c.markings.k c.markings.invariant.1.1 c.args.self.now.list.now.count c.loop-t.t c.loop-t.invariant.1.1 _ c.is_missing.ensures c.if-is_missing.true c.markings-test.true c.loop-t-test.true

pub returns-after-markings : goal.returns-after-markings
returns-after-markings c =
    rw c.markings.invariant.1.0
    (results_none (missing_in c.args.self.now) c.args.self.now.net.now.transitions c.markings.k c.markings.invariant.1.1 c.args.self.now.list.now.count c.markings.auto.k-end c.markings-test.false)
