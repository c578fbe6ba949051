use Prim.Native.Nat.{ℕ}
use Rattle.refusals.specs.Given.{Answer}
use Rattle.file_write.specs.Told.{numbers}
use Rattle.c_write.specs.Handed.{handed_length}
use Rattle.c_answer.proofs.Hand.{passed}
use borrow.Author.Rules.{rules}
use Rattle.c_write.proofs.of_length.Goals as goal

pub returns-in-Ok : goal.returns-in-Ok
unfolding handed_length
returns-in-Ok c = search (passed (λ (a : Answer ℕ). handed_length (numbers a)), rules)

pub returns-in-Err : goal.returns-in-Err
unfolding handed_length
returns-in-Err c = search (passed (λ (a : Answer ℕ). handed_length (numbers a)), rules)
