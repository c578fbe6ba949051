use mathlib.Core.Path.{◌≡◌}
use Prim.Native.Nat.{◌+◌}
use lib.ListN.{drop}
use Rattle.file_parts.specs.File.{line_len}
use Rattle.file_parts.proofs.line_end.Given as goal

abbrev pub invariant-loop-e : goal.invariant-loop-e
invariant-loop-e l = l.e + line_len (drop l.e l.part) ≡ l.at + line_len (drop l.at l.part)
