use Rattle.file_mask.proofs.Turns.{eight_be}
use Rattle.file_mask.proofs.put_eight.Goals as goal

pub returns : goal.returns
returns c = rw (← eight_be c.args.n, ← c.to_be_bytes.ensures) c.put_bytes.ensures
