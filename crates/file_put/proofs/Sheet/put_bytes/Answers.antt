use mathlib.Core.Path.{refl}
use mathlib.Core.List.{List}
use Prim.Native.Nat.{ℕ}
use native.Mathlib.Omega.{arith}
use Rattle.file_put.specs.Put.{twos}
use Rattle.file_put.proofs.Sheets.{spelled_none, spelled_next, spelled_all}
use Rattle.file_put.proofs.Sheet.put_bytes.Goals as goal

pub loop-b-init : goal.loop-b-init
unfolding twos
loop-b-init c = spelled_none _

pub loop-b-preserved : goal.loop-b-preserved
loop-b-preserved c = spelled_next (λ (l : List ℕ). l) (λ a b. refl) _ _ c.loop-b.invariant (omega arith) c.put_byte.ensures

pub returns : goal.returns
returns c = spelled_all (λ (l : List ℕ). l) _ _ c.loop-b.invariant (omega arith)
