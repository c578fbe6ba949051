use Rattle.list_pairs.proofs.Lookups.{skipped_closed}
use borrow.Author.Rules.{rules}
use Rattle.list_pairs.proofs.fill_index.Goals as goal

pub returns-in-Closed : goal.returns-in-Closed
returns-in-Closed c = record { index = λ q. search rules; skips = skipped_closed _ _ _ _ _ (search rules); changes = λ q. search rules }
