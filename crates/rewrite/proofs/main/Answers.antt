use native.Mathlib.Omega.{arith}
use Rattle.file_out.proofs.Length.{largest}
use borrow.Author.Rules.{rules}
use Rattle.rewrite.proofs.main.Goals as goal

-- the longest file fits the room, as a number
pub answer-ended-requires : goal.answer-ended-requires
answer-ended-requires c = (omega (arith, largest), search rules)
