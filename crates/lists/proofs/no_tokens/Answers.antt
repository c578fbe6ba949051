use lib.ListN.{length-replicate}
use Rattle.lists.proofs.no_tokens.Goals as goal

pub returns : goal.returns
returns c = simp length-replicate
