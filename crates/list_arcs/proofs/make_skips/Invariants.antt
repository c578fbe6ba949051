use Rattle.ground.proofs.Fill.{Made}
use Rattle.list_arcs.specs.Arc.{skip_of}
use Rattle.list_arcs.proofs.make_skips.Given as goal

abbrev pub invariant-loop-k : goal.invariant-loop-k
invariant-loop-k l = Made 0 (skip_of l.net.places l.net.pre.now l.net.post.now) l.initial.skips l.k l.skips
