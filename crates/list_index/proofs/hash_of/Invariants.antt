use mathlib.Core.Path.{◌≡◌}
use Rattle.list_index.specs.Index.{mixed}
use Rattle.list_index.proofs.hash_of.Given as goal

abbrev pub invariant-loop-p : goal.invariant-loop-p
invariant-loop-p l = l.h ≡ mixed l.numbers l.p
