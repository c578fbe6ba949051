use mathlib.Core.Path.{sym, ap, ◌∙◌}
use lib.IntN.{ℤ, pos}
use lib.Signed.{lt_z}
use mir.Syntax.{w64}
use mir.Facts.{to_z-of_z}
use Rattle.file_reads.specs.Walk.{part_by}
use Rattle.file_reads.proofs.Steps.{left_negative, left_positive, left_none}
use Rattle.file_reads.proofs.input_after.Goals as goal

pub returns-then-got-lt0 : goal.returns-then-got-lt0
returns-then-got-lt0 c = let e = sym (to_z-of_z {w = w64} c.ranges.got) in left_negative c.args.got c.args.interrupted (part_by c.args.reading.now) _ (ap (λ (y : ℤ). lt_z y (pos 0)) e ∙ c.if-got-lt0.true) c.after_failure.ensures

pub returns-then-got-gt0 : goal.returns-then-got-gt0
returns-then-got-gt0 c = let e = sym (to_z-of_z {w = w64} c.ranges.got) in left_positive c.args.got c.args.interrupted (part_by c.args.reading.now) _ (ap (λ (y : ℤ). lt_z (pos 0) y) e ∙ c.if-got-gt0.true) c.after_part.ensures

pub returns-else-got-gt0 : goal.returns-else-got-gt0
returns-else-got-gt0 c = let e = sym (to_z-of_z {w = w64} c.ranges.got) in left_none c.args.got c.args.interrupted (part_by c.args.reading.now) (ap (λ (y : ℤ). lt_z y (pos 0)) e ∙ c.if-got-lt0.false) (ap (λ (y : ℤ). lt_z (pos 0) y) e ∙ c.if-got-gt0.false)
