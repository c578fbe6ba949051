use borrow.Author.Rules.{rules}
use Rattle.c_write.proofs.Handed.{hand_file}
use Rattle.c_write.proofs.kaunorpi_write_case.Goals as goal

pub returns : goal.returns
returns c = search (hand_file, rules)
