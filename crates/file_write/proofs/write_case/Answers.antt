use Rattle.net.specs.Lent.{lent}
use Rattle.file_write.proofs.Answers.{found_allowed, found_room, case_written}
use Rattle.file_write.proofs.write_case.Goals as goal

pub invariant_of-sized : goal.invariant_of-sized
invariant_of-sized c = record { sized = (found_allowed (lent c.args.net.now) c.args.initial.now c.args.word.now c.args.room.now c.in_ok-write_fault.ensures).writable.sized }

pub put_file-requires : goal.put_file-requires
put_file-requires c =
    let a = found_allowed (lent c.args.net.now) c.args.initial.now c.args.word.now c.args.room.now c.in_ok-write_fault.ensures in
    record {
      lists = (a.writable.marked, a.writable.short);
      word_in_bounds = found_room (lent c.args.net.now) c.args.initial.now c.args.word.now c.args.room.now c.in_ok-write_fault.ensures;
    }

pub returns : goal.returns
returns c = case_written (lent c.args.net.now) c.args.initial.now c.args.word.now c.args.room.now c.in_ok-write_fault.ensures _ _ c.put_file.ensures
