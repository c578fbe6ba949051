use mathlib.Core.Path.{refl}
use mathlib.Core.List.{List}
use Prim.Native.Nat.{ℕ}
use native.Mathlib.Omega.{arith}
use Rattle.file_put.proofs.Sheets.{spelled_none, spelled_next}
use Rattle.file_row.proofs.put_narrow.Goals as goal

pub loop-weight-init : goal.loop-weight-init
loop-weight-init c = spelled_none _

pub loop-weight-preserved : goal.loop-weight-preserved
loop-weight-preserved c = spelled_next (λ (l : List ℕ). l) (λ a b. refl) _ _ c.loop-weight.invariant (omega arith) c.put_byte.ensures
