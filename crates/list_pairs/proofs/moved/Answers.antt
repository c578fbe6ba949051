use Rattle.list_pairs.proofs.Fires.{afters}
use borrow.Author.Rules.{rules}
use Rattle.list_pairs.proofs.moved.Goals as goal

pub returns : goal.returns
returns c = search (afters, rules)
