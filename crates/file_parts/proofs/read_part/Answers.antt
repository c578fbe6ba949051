use mathlib.Core.Path.{sym}
use native.Mathlib.Omega.{arith}
use Rattle.file_parts.proofs.Line.{large, bounds}
use Rattle.file_parts.proofs.Buffer.{lent_start, lent_next, lent_end, lent_stopped}
use Rattle.file_parts.proofs.read_part.Goals as goal

pub loop-at-init : goal.loop-at-init
loop-at-init c = lent_start _ _ _ c.requires.0

pub feed_line-r-requires : goal.feed_line-r-requires
feed_line-r-requires c = (c.loop-at.invariant.sound, omega (arith, c.loop-at-test.true), c.line_end-e.ensures, large _ _ c.loop-at.invariant.same c.requires.1)

pub overflow_add-at : goal.overflow_add-at
overflow_add-at c = let b = bounds _ c.loop-at.at c.line_end-e.result c.line_end-e.ensures (omega (arith, c.loop-at-test.true)) in omega (arith, b)

pub loop-at-smaller : goal.loop-at-smaller
loop-at-smaller c = let b = bounds _ c.loop-at.at c.line_end-e.result c.line_end-e.ensures (omega (arith, c.loop-at-test.true)) in omega (arith, b, c.loop-at-test.true)

pub loop-at-preserved : goal.loop-at-preserved
loop-at-preserved c =
    lent_next _ _ _ _ _ _ c.loop-at.invariant c.line_end-e.result _ _ c.feed_line-r.ensures.value c.feed_line-r.ensures.sound
    (record { caps = c.feed_line-r.auto.caps; marks = c.feed_line-r.auto.marks; initial = c.feed_line-r.auto.initial; pre = c.feed_line-r.auto.pre; post = c.feed_line-r.auto.post; word = c.feed_line-r.auto.word })

pub returns-else-is_ok-clause-value : goal.returns-else-is_ok-clause-value
returns-else-is_ok-clause-value c = lent_stopped _ _ _ _ _ _ c.loop-at.invariant (sym c.if-is_ok.ensures.value)

pub shape_of-caps-after-loop-at : goal.shape_of-caps-after-loop-at
shape_of-caps-after-loop-at c = c.loop-at.invariant.same.caps

pub shape_of-marks-after-loop-at : goal.shape_of-marks-after-loop-at
shape_of-marks-after-loop-at c = c.loop-at.invariant.same.marks

pub shape_of-initial-after-loop-at : goal.shape_of-initial-after-loop-at
shape_of-initial-after-loop-at c = c.loop-at.invariant.same.initial

pub shape_of-pre-after-loop-at : goal.shape_of-pre-after-loop-at
shape_of-pre-after-loop-at c = c.loop-at.invariant.same.pre

pub shape_of-post-after-loop-at : goal.shape_of-post-after-loop-at
shape_of-post-after-loop-at c = c.loop-at.invariant.same.post

pub shape_of-word-after-loop-at : goal.shape_of-word-after-loop-at
shape_of-word-after-loop-at c = c.loop-at.invariant.same.word

pub returns-after-loop-at : goal.returns-after-loop-at
returns-after-loop-at c = record { value = lent_end _ _ _ _ _ _ c.loop-at.invariant c.loop-at-test.false; sound = c.loop-at.invariant.sound }
