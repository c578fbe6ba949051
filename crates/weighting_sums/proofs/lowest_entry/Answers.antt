use mathlib.Core.Path.{ap, ◌∙◌}
use lib.ListN.{get_or}
use lib.IntN.{pos}
use mir.Syntax.{w16}
use mir.Facts.{to_z-of_z}
use Rattle.weighting_sums.specs.Tests.{picks}
use Rattle.ground.proofs.Scan.{scans}
use borrow.Author.Rules.{rules}
use Rattle.weighting_sums.proofs.lowest_entry.Goals as goal

pub returns-then-is_picked : goal.returns-then-is_picked
returns-then-is_picked c =
    let e = (c.is_picked.ensures
    ∙ ap (picks c.args.negative) (to_z-of_z {w = w16} {z = get_or c.args.y.now c.loop-k.k (pos 0)} (record { sfits = c.is_picked-arg-1.given }))) in search (scans, rules)

pub returns : goal.returns
returns c = search (scans, rules)
