use Rattle.net.specs.Lent.{lent}
use Rattle.running.specs.State.{fed_of}
use Rattle.running.proofs.Parts.{fed_played, fed_held}
use Rattle.running.proofs.run_part.Goals as goal

pub returns-in-Err : goal.returns-in-Err
unfolding fed_of
returns-in-Err c = rw (← c.part_fault.ensures, c.in-Err.is)

pub returns-then-state-eq0 : goal.returns-then-state-eq0
returns-then-state-eq0 c =
    fed_played (lent c.args.net.now) c.args.state c.args.part.now _ c.part_fault.ensures _ c.in_default.is c.if-state-eq0.true c.play_on.ensures

pub returns-else-state-eq0 : goal.returns-else-state-eq0
returns-else-state-eq0 c =
    fed_held (lent c.args.net.now) c.args.state c.args.part.now _ c.part_fault.ensures _ c.in_default.is c.if-state-eq0.false c.held_block.ensures
