-- A net that hangs loose, as the code comes to it. Assumes nothing.
use mathlib.Core.Path.{◌≡◌, sym, ◌∙◌}
use mathlib.Core.Bool.{Bool, true, ◌&&◌}
use mathlib.Core.List.{List}
use Prim.Native.Nat.{ℕ, ◌+◌, ◌*◌, ◌≤◌}
use native.Mathlib.Omega.{arith}
use native.Mathlib.Nat.{mul-le-mul}
use lib.Dec.{eqb}
use Rattle.ground.proofs.Tests.{and-true}
use Rattle.file_row.specs.Row.{is_row}
use Rattle.file_line.specs.declared.Reading.{Reading}
use Rattle.file_line.specs.Read.{cell_limit, kind_of}
use Rattle.file_line.specs.Walk.{Good, Accepted}

-- the entries of Pre, and of Post, are inside their rooms
pub cells_few : (s : Reading) → Good s → s.transitions * s.places ≤ cell_limit
cells_few s g = mul-le-mul g.transitions g.places

-- on the line of the last transition there is some place and some transition; k is the line's kind, r whether it is that line
module _ (s : Reading) (d : List ℕ) (k : ℕ) (e : k ≡ kind_of d) (r : Bool) (f : r ≡ (is_row k && eqb (s.next + 1) s.transitions)) where
  pub last_some : r ≡ true → Good s → Accepted s d → (1 ≤ s.places) × (1 ≤ s.transitions)
  last_some q g t =
      let p = (t.row (rw (← e) (and-true (is_row k) (eqb (s.next + 1) s.transitions) (sym f ∙ q)).0)).0 in
      (g.some_places (omega arith), g.some (omega arith))
