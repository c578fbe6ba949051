-- Laws of a marking loaded and looked at for a transition that it enables. Assumes nothing.
use Prim.Native.Nat.{ℕ}
use mathlib.Core.Path.{◌≡◌, ap, ◌∙◌}
use mathlib.Core.Bool.{Bool}
use mathlib.Core.List.{List}
use Rattle.net.specs.Net.{Net}
use Rattle.closed.specs.Dead.{enables_none}

-- m is the marking l that was loaded
pub none_as : (net : Net) (m l : List ℕ) → m ≡ l → (r : Bool) → r ≡ enables_none net m → r ≡ enables_none net l
none_as net m l e r q = q ∙ ap (enables_none net) e
