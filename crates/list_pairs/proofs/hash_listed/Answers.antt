use Rattle.list_pairs.proofs.Lookups.{hashed_closed}
use Rattle.list_pairs.proofs.hash_listed.Goals as goal

pub returns-in-Closed : goal.returns-in-Closed
returns-in-Closed c = hashed_closed _ _ _ (rw c.marking.ensures at c.hash_of.ensures)
