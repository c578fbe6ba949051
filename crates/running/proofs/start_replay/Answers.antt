use mathlib.Core.Path.{◌≡◌, sym, ◌∙◌}
use lib.ListN.{replicate}
use lib.Seq.{sets}
use Rattle.ground.specs.Limits.{count_limit}
use Rattle.net.specs.Lent.{lent}
use Rattle.running.specs.Entry.{fresh_at, start_of}
use Rattle.running.proofs.Starts.{blank, start_room}
use Rattle.running.proofs.start_replay.Goals as goal

pub returns-in-Err : goal.returns-in-Err
unfolding start_of
returns-in-Err c =
    let k : c.fresh.result ≡ fresh_at (replicate count_limit 0) = c.fresh.ensures in rw (← c.marked_fault.ensures, c.in-Err.is, k, blank)

pub load_front-requires : goal.load_front-requires
load_front-requires c = start_room (lent c.args.net.now) c.args.initial.now (sym c.marked_fault.ensures ∙ c.in_default.is)

pub returns : goal.returns
unfolding start_of
returns c =
    let l : c.load_front.new.marking ≡ sets (replicate count_limit 0) 0 c.args.initial.now = c.load_front.ensures in
    rw (← c.marked_fault.ensures, c.in_default.is, c.fresh-2.ensures, l, blank)
