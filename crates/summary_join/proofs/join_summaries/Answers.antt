use mathlib.Core.Path.{sym}
use native.Mathlib.Omega.{arith}
use Rattle.summary_form.proofs.Shapes.{shape_wells}
use Rattle.summary_form.proofs.Formed.{of_formed}
use Rattle.summary_join.proofs.Joining.{join_allowed_of}
use borrow.Author.Rules.{rules}
use Rattle.summary_join.proofs.join_summaries.Goals as goal

pub overflow_add-result : goal.overflow_add-result
overflow_add-result c = let few = (join_allowed_of c.args.a c.args.b (sym c.in_ok-join_fault.ensures)).few in record { fits = omega arith }

-- Searched for, so that slots joined in the other order are refused at the answer, not here.
pub join_slots-requires : goal.join_slots-requires
join_slots-requires c =
    let j = join_allowed_of c.args.a c.args.b (sym c.in_ok-join_fault.ensures) in
    let first = shape_wells c.args.a (of_formed c.args.a j.first_formed) in
    let second = shape_wells c.args.b (of_formed c.args.b j.second_formed) in
    record { wells = search rules; wells_2 = search rules }
