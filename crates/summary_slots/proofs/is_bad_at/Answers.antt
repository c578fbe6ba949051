use borrow.Author.Tests.{lt-ltb, le-ltb}
use Rattle.summary_slots.proofs.is_bad_at.Goals as goal
use Rattle.summary_slots.proofs.is_bad_at.Goals.{then-p-places, else-p-places}

pub returns : goal.returns
returns c =
    elim c.if-p-places.branch [
      | then-p-places w ↦ rw (lt-ltb c.args.p c.args.places w.if-p-places.true) (rw w.is_bad-is at c.is_bad.ensures)
      | else-p-places w ↦ rw (le-ltb c.args.p c.args.places w.if-p-places.false) (rw w.is_bad-is at c.is_bad.ensures)
    ]
