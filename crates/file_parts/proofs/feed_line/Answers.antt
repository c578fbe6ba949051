use native.Mathlib.Omega.{arith}
use Rattle.file_line.specs.Read.{rooms}
use Rattle.file_parts.proofs.Line.{bounds}
use Rattle.file_parts.proofs.Buffer.{line_over, line_cut, line_whole}
use Rattle.file_parts.proofs.feed_line.Goals as goal

pub slice_bounds-hold-end : goal.slice_bounds-hold-end
slice_bounds-hold-end c = omega (arith, bounds _ _ _ c.requires.2 c.requires.1)

pub returns-then-e-part-clause-value : goal.returns-then-e-part-clause-value
returns-then-e-part-clause-value c = line_cut c.args.h _ (rooms c.args.caps.now c.args.marks.now c.args.initial.now c.args.pre.now c.args.post.now c.args.word.now) c.requires.0 _ _ c.requires.1 c.requires.2 _ c.in-Ok.is c.hold-r.result c.hold-r.ensures.value c.if-e-part.true

pub returns-else-e-part-clause-value : goal.returns-else-e-part-clause-value
returns-else-e-part-clause-value c = line_whole c.args.h _ (rooms c.args.caps.now c.args.marks.now c.args.initial.now c.args.pre.now c.args.post.now c.args.word.now) c.requires.0 _ _ c.requires.1 c.requires.2 _ c.in-Ok.is c.hold-r.result c.hold-r.ensures.value c.if-e-part.false _ c.end_line.ensures.value

pub returns-in-Err-clause-value : goal.returns-in-Err-clause-value
returns-in-Err-clause-value c = line_over c.args.h _ (rooms c.args.caps.now c.args.marks.now c.args.initial.now c.args.pre.now c.args.post.now c.args.word.now) c.requires.0 _ _ c.requires.1 c.requires.2 _ _ c.in-Err.is
