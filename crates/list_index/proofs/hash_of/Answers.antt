use Rattle.list_index.proofs.Hashes.{mixed_next, hashes}
use borrow.Author.Rules.{rules}
use Rattle.list_index.proofs.hash_of.Goals as goal

pub loop-p-init : goal.loop-p-init
loop-p-init c = search (hashes, rules)

pub mix-h-requires : goal.mix-h-requires
mix-h-requires c = search (hashes, rules)

pub loop-p-preserved : goal.loop-p-preserved
loop-p-preserved c = mixed_next _ _ _ _ c.loop-p.invariant c.mix-h.ensures
