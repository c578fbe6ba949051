use Rattle.lists.proofs.Wholes.{fronts}
use borrow.Author.Rules.{rules}
use Rattle.lists.proofs.holds.Goals as goal

pub slice_bounds-is_given_held-end : goal.slice_bounds-is_given_held-end
slice_bounds-is_given_held-end c = search (fronts, rules)

pub is_given_held-requires : goal.is_given_held-requires
is_given_held-requires c = search (fronts, rules)
