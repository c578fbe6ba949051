use native.Mathlib.Omega.{arith}
use mathlib.Core.Path.{sym}
use lib.Seq.{length-take-le}
use Rattle.std.specs.Prelude.{Err}
use mathlib.Core.List.{[]}
use Rattle.verdict_text.proofs.Answers.{line_few}
use Rattle.rewrite.proofs.tell.Goals as goal

pub slice_bounds-write_all-end : goal.slice_bounds-write_all-end
slice_bounds-write_all-end g c = omega (arith, c.write_refused-n.ensures.next, line_few (Err c.args.why) [] (omega arith), c.requires)

pub slice_bounds-write_all-end-2 : goal.slice_bounds-write_all-end-2
slice_bounds-write_all-end-2 g c = sym (length-take-le _ _ (omega (arith, c.write_refused-n.ensures.next, line_few (Err c.args.why) [] (omega arith), c.requires)))
