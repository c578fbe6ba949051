use Rattle.file_line.proofs.Turns.{tokens_found}
use Rattle.file_line.proofs.tokens_fault.Goals as goal

pub returns : goal.returns
returns c = tokens_found _ _ _ _ _ _ _ c.bad_token.ensures c.is_some.ensures c.refuse.ensures
