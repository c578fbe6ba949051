use native.Mathlib.Omega.{arith}
use mathlib.Core.Path.{sym}
use lib.Seq.{length-take-le}
use Rattle.kaunorpi.proofs.Showing.{line_front, passed_on}
use Rattle.kaunorpi.proofs.show.Goals as goal

pub slice_bounds-write_all-end-2 : goal.slice_bounds-write_all-end-2
slice_bounds-write_all-end-2 g c = sym (length-take-le _ _ (omega (arith, c.answer_line-n.ensures.few, c.requires.1)))

pub returns-clause-written : goal.returns-clause-written
returns-clause-written g c =
    let e = line_front _ _ _ _ c.answer_line-n.ensures.line (omega (arith, c.answer_line-n.ensures.few, c.requires.1)) in
    passed_on _ _ _ c.map_err.ensures.variant (rw e at c.write_all.ensures.bytes)
