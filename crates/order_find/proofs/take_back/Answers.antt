use Rattle.order_find.proofs.take_back.Goals as goal

-- so that a row of the other table is refused here
pub fire-requires-clause-enough : goal.fire-requires-clause-enough
fire-requires-clause-enough c = rw c.puts.ensures c.requires.enough
