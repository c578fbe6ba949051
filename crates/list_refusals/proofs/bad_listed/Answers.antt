use Rattle.list_refusals.proofs.Entries.{bad_none}
use Rattle.list_refusals.proofs.bad_listed.Goals as goal

pub returns-then-are_fine : goal.returns-then-are_fine
returns-then-are_fine c = bad_none c.args.places c.args.caps.now c.args.list.now (c.are_fine.ensures.none c.if-are_fine.true)
