use Rattle.list_index.proofs.Finds.{Making}
use Rattle.list_index.proofs.make_index.Given as goal

abbrev pub invariant-loop-k : goal.invariant-loop-k
invariant-loop-k l = Making l.list.places l.list.count l.list.list.now l.initial.heads l.initial.links l.k l.heads l.links
