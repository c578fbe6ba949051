use mathlib.Core.Path.{refl}
use Rattle.list_index.proofs.Finds.{making_start, making_next}
use Rattle.list_index.proofs.make_index.Goals as goal

pub loop-k-init : goal.loop-k-init
loop-k-init c = making_start _ _ _ _ _ c.requires.count_le_list_limit c.requires.heads_value c.requires.links_len

pub loop-k-preserved : goal.loop-k-preserved
loop-k-preserved c =
    making_next _ _ _ _ _ c.requires.count_le_list_limit c.requires.heads_value c.requires.links_len c.loop-k.k _ _ c.loop-k.invariant _ _ _ c.loop-k-test.true
    (rw c.marking.ensures at c.listed_bucket-b.ensures.0) refl c.entry_of.ensures
