use Rattle.net.specs.Lent.{lent}
use Rattle.file_write.proofs.Answers.{found_writable, length_told}
use Rattle.file_write.proofs.case_length.Goals as goal

pub invariant_of-sized : goal.invariant_of-sized
invariant_of-sized c = record { sized = (found_writable (lent c.args.net.now) c.args.initial.now c.args.word.now c.in_ok-text_fault.ensures).sized }

pub text_length-requires : goal.text_length-requires
text_length-requires c = (found_writable (lent c.args.net.now) c.args.initial.now c.args.word.now c.in_ok-text_fault.ensures).short

pub returns : goal.returns
returns c = length_told (lent c.args.net.now) c.args.initial.now c.args.word.now c.in_ok-text_fault.ensures _ c.text_length.ensures
