use mathlib.Core.Path.{◌∙◌}
use Rattle.net.specs.Lent.{lent}
use Rattle.weights.proofs.Heavies.{rows_heavy}
use Rattle.weights.proofs.is_heavy.Goals as goal

pub returns : goal.returns
returns c = (rw (c.takes.ensures, c.puts.ensures) at c.has_over.ensures) ∙ rows_heavy (lent c.args.sized.now.net) c.args.t c.args.sized.now.sized c.requires
