use mathlib.Core.Path.{refl}
use Rattle.file_line.proofs.net_at.Goals as goal

pub returns-clause-value : goal.returns-clause-value
returns-clause-value c = refl
