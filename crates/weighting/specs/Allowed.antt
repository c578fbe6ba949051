-- To be believed: what 01 asks of what is lent for a weighting, and which refusal is given exactly when.
use Rattle.std.specs.Prelude.{ℕ, ◌≡◌, List, length, ℤ}
use Rattle.net.specs.Net.{Net, Light, Sized}
use Rattle.wiring.specs.Wired.{Wired}
use Rattle.refusals.specs.First.{First, Given, NetFirst}
use Rattle.weighting_sums.specs.Allowed.{SomeEntry}

-- a weighting of n entries, one for each place or each transition, that no refusal meets
pub record Allowed (net : Net) (n : ℕ) (y : List ℤ) : Type 0 where
  pub sized : Sized net
  pub light : Light net
  pub long : length y ≡ n
  pub wired : Wired net
  pub some : SomeEntry y

-- else the refusal of the first demand that does not hold
abbrev pub Refusal : Net → ℕ → List ℤ → ℕ → ℕ → Type 0
Refusal net n y number at = NetFirst net (length y ≡ n) number at (First (SomeEntry y) (Given 8 0 number at) ⊥)
