-- Laws of a row written on a sheet, by its kind. Assumes nothing.
use mathlib.Core.Path.{◌≡◌}
use mathlib.Core.List.{List, [], ◌∷◌}
use Prim.Native.Nat.{ℕ}
use Rattle.file_digits.specs.Frame.{line_feed}
use Rattle.file_put.specs.declared.Sheet.{Sheet}
use Rattle.file_put.specs.Put.{line_text}
use Rattle.file_put.specs.Sheet.{Spelled, Written}
use Rattle.file_put.proofs.Sheets.{spelled_then, spelled_line}
use Rattle.file_row.specs.Row.{row_kind, weights_text, row_frame}

-- the kind, the transition, both rows and the line feed are the frame's line
pub row_spelled : (t : ℕ) (takes puts : List ℕ) {k : ℕ} {a b c d e : Sheet} → k ≡ row_kind takes puts → Spelled a (k ∷ t ∷ []) b → Spelled b (weights_text k takes) c → Spelled c (weights_text k puts) d
    → Written d (line_feed ∷ []) e → Written a (line_text (row_frame t takes puts)) e
row_spelled t takes puts q x y z f = rw (← q) (spelled_line (spelled_then x (spelled_then y z)) f)
