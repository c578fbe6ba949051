use native.Mathlib.Omega.{arith}
use Rattle.ground.proofs.Fill.{make_next}
use Rattle.list_arcs.specs.Arc.{skip_of}
use Rattle.list_arcs.proofs.make_skips.Goals as goal

pub loop-k-preserved : goal.loop-k-preserved
loop-k-preserved c =
    make_next 0 (skip_of c.args.net.now.places c.args.net.now.pre.now c.args.net.now.post.now) _ c.loop-k.k _ _ c.loop-k.invariant
    (omega (arith, c.loop-k-test.true, c.loop-k.invariant.filled.long, c.requires.pre_in_bounds.0)) c.skip_at.ensures
