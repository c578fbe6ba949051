use Rattle.net.specs.Lent.{lent}
use Rattle.refusals.proofs.Chains.{chain_first, chain_next}
use Rattle.file_write.specs.Entry.{write_fault}
use Rattle.file_write.proofs.Answers.{found_writable, fault_room}
use Rattle.file_write.proofs.write_fault.Goals as goal

pub returns-in_err-text_fault : goal.returns-in_err-text_fault
unfolding write_fault
returns-in_err-text_fault c = chain_first _ _ _ _ c.from_residual.ensures.1 c.in_err-text_fault.ensures

pub invariant_of-sized : goal.invariant_of-sized
invariant_of-sized c = record { sized = (found_writable (lent c.args.net.now) c.args.initial.now c.args.word.now c.in_ok-text_fault.ensures).sized }

pub text_length-needed-requires : goal.text_length-needed-requires
text_length-needed-requires c = (found_writable (lent c.args.net.now) c.args.initial.now c.args.word.now c.in_ok-text_fault.ensures).short

pub returns : goal.returns
unfolding write_fault
returns c =
    chain_next _ _ _ _ c.in_ok-text_fault.ensures
    (fault_room (lent c.args.net.now) c.args.initial.now c.args.word.now c.in_ok-text_fault.ensures c.args.room _ _ c.text_length-needed.ensures c.refuse.ensures)
