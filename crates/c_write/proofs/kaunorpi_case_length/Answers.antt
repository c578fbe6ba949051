use borrow.Author.Rules.{rules}
use Rattle.c_write.proofs.Handed.{hand_length}
use Rattle.c_write.proofs.kaunorpi_case_length.Goals as goal

pub returns : goal.returns
returns c = search (hand_length, rules)
