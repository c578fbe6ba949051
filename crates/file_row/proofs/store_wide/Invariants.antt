use mathlib.Core.Path.{◌≡◌}
use lib.Seq.{sets}
use Rattle.file_digits.specs.Frame.{words_from}
use Rattle.file_row.proofs.store_wide.Given as goal

abbrev pub invariant-loop-k : goal.invariant-loop-k
invariant-loop-k l = l.room ≡ sets l.initial.room l.at (words_from l.d l.from l.k)
