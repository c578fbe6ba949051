use Rattle.net.specs.Lent.{lent}
use Rattle.complement.proofs.Answers.{test_sized, wide_cells, faults}
use borrow.Author.Rules.{rules}
use Rattle.complement.proofs.find_fault.Goals as goal

pub returns-then-not-is_sized : goal.returns-then-not-is_sized
returns-then-not-is_sized c = search (faults, rules)

pub invariant_of-sized : goal.invariant_of-sized
invariant_of-sized c = record { sized = test_sized (lent c.args.net.now) _ c.is_sized.ensures (search rules) }

pub overflow_mul-cells : goal.overflow_mul-cells
overflow_mul-cells c = wide_cells (lent c.args.net.now) (test_sized (lent c.args.net.now) _ c.is_sized.ensures (search rules)) _ c.count_places-wide.ensures

pub returns : goal.returns
returns c = search (faults, rules)
