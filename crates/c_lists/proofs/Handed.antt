-- What an entry answers is handed over as it is. Assumes nothing.
use Prim.Native.Nat.{ℕ}
use mathlib.Core.Path.{◌≡◌, ap, ◌∙◌}
use mathlib.Core.List.{List}
use Rattle.c_lists.specs.Handed.{handed_list}
use Rattle.c_lists.specs.declared.ListNumbers.{ListNumbers}

pub hand_list : (r : ListNumbers) (a b : List ℕ) → r ≡ handed_list a → a ≡ b → r ≡ handed_list b
hand_list r a b e h = e ∙ ap handed_list h
