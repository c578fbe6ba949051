use Rattle.refusals.proofs.Chains.{chain_next}
use Rattle.file_line.proofs.Turns.{letters_found}
use Rattle.file_line.proofs.letters_fault.Goals as goal

pub returns : goal.returns
returns c = chain_next _ _ _ _ c.in_ok-refuse.ensures (letters_found _ _ _ _ _ c.fit_letters.ensures c.refuse-2.ensures)
