use mathlib.Core.Path.{refl}
use Rattle.list_index.proofs.no_heads.Goals as goal

pub returns : goal.returns
returns c = refl
