use borrow.Author.Rules.{rules}
use Rattle.c_replay.proofs.Handed.{hand_replay}
use Rattle.c_replay.proofs.kaunorpi_replay_word.Goals as goal

pub returns : goal.returns
returns c = search (hand_replay, rules)
