use mathlib.Core.Path.{sym, ◌∙◌}
use Rattle.net.specs.Lent.{lent}
use Rattle.summary_form.proofs.Shapes.{shape_wells}
use Rattle.summary_form.proofs.Formed.{of_formed}
use Rattle.summary_ask.proofs.Asking.{ask_allowed_of}
use Rattle.summary_ask.proofs.ask_summary.Goals as goal

pub ask_slots-requires : goal.ask_slots-requires
ask_slots-requires c =
    let k = ask_allowed_of (lent c.args.net.now) c.args.marking.now c.args.summary c.args.room.now (sym c.in_ok-ask_fault.ensures) in
    record {
      caps_len = k.sized.capped ∙ sym k.marked;
      room_len = k.roomy ∙ sym k.marked;
      marking_len_bound = rw k.marked k.sized.few_places;
      wells = shape_wells c.args.summary (of_formed c.args.summary k.formed);
    }
