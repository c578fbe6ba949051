use Rattle.list_index.proofs.Hashes.{hashed_below}
use borrow.Author.Rules.{rules}
use Rattle.list_index.proofs.change_of.Goals as goal

pub overflow_add-result : goal.overflow_add-result
overflow_add-result c = let h = hashed_below _ _ c.hash_of-put.ensures in search rules

pub overflow_sub-result : goal.overflow_sub-result
overflow_sub-result c = let h = hashed_below _ _ c.hash_of-taken.ensures in search rules
