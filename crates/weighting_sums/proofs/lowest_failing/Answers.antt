use mathlib.Core.Path.{ap, ◌∙◌}
use mathlib.Core.Bool.{not}
use lib.IntN.{ℤ}
use Rattle.weighting_sums.specs.Tests.{is_zero}
use Rattle.ground.proofs.Scan.{scans}
use borrow.Author.Rules.{rules}
use Rattle.weighting_sums.proofs.lowest_failing.Goals as goal

pub returns-then-is_failing : goal.returns-then-is_failing
returns-then-is_failing c = let e = c.is_failing.ensures ∙ ap (λ (z : ℤ). not (is_zero z)) c.line_sums.ensures in search (scans, rules)

pub returns : goal.returns
returns c = search (scans, rules)
