use Rattle.ground.proofs.Fill.{Made}
use Rattle.net.specs.Letter.{row}
use Rattle.list_index.specs.Index.{change_of}
use Rattle.list_index.proofs.make_changes.Given as goal

abbrev pub invariant-loop-t : goal.invariant-loop-t
invariant-loop-t l = Made 0 (λ t. change_of (row l.net.places t l.net.pre.now) (row l.net.places t l.net.post.now)) l.initial.changes l.t l.changes
