use mathlib.Core.Path.{sym, ◌∙◌}
use Rattle.file_line.proofs.Judging.{passed}
use Rattle.file_entry.proofs.Fronts.{largest_of_lem, largest_large}
use Rattle.file_entry.proofs.read_case.Goals as goal

pub read_into-requires : goal.read_into-requires
read_into-requires c = largest_large _ (largest_of_lem _ (sym c.is_largest-fits.ensures ∙ passed _ _ _ _ c.in_ok-refuse.ensures))
