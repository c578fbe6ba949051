use mathlib.Core.Path.{sym, ap, ◌∙◌}
use Rattle.net.specs.Net.{Net}
use Rattle.net.specs.Lent.{lent}
use Rattle.sets.proofs.Touches.{turned_sized}
use Rattle.sets.proofs.Allowed.{allowed_of}
use Rattle.sets.proofs.trap_set.Goals as goal

pub invariant_of-sized : goal.invariant_of-sized
invariant_of-sized c =
    let a = allowed_of (lent c.args.net.now) c.args.set.now (sym c.in_ok-set_fault.ensures) in
    record { sized = rw c.turned.ensures (turned_sized (lent c.args.net.now) a.sized) }

pub judge_set-requires : goal.judge_set-requires
judge_set-requires c =
    let a = allowed_of (lent c.args.net.now) c.args.set.now (sym c.in_ok-set_fault.ensures) in
    a.long ∙ sym (ap (λ (n : Net). n.places) c.turned.ensures)
