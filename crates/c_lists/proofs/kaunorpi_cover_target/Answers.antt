use borrow.Author.Rules.{rules}
use Rattle.c_lists.proofs.Handed.{hand_list}
use Rattle.c_lists.proofs.kaunorpi_cover_target.Goals as goal

pub returns : goal.returns
returns c = search (hand_list, rules)
