-- To be believed: what 01 asks of what is lent for a bound, and which refusal is given exactly when.
use Rattle.std.specs.Prelude.{ℕ, ◌<◌, ◌≡◌, List, length, ℤ}
use Rattle.net.specs.Net.{Net, Light, Sized}
use Rattle.wiring.specs.Wired.{Wired}
use Rattle.refusals.specs.Given.{Fine}
use Rattle.refusals.specs.First.{First, Given, MarkedFirst}
use Rattle.weighting_sums.specs.Allowed.{SomeEntry}

-- a marking, a weighting and a place that no refusal meets, where a bound is asked
pub record BoundAllowed (net : Net) (initial : List ℕ) (y : List ℤ) (p : ℕ) : Type 0 where
  pub sized : Sized net
  pub light : Light net
  pub marked : length initial ≡ net.places
  pub long : length y ≡ net.places
  pub fine : Fine net.caps initial
  pub wired : Wired net
  pub some : SomeEntry y
  pub below : p < net.places

-- else the refusal of the first demand that does not hold; 13 is "a place number not below P"
abbrev pub BoundRefusal : Net → List ℕ → List ℤ → ℕ → ℕ → ℕ → Type 0
BoundRefusal net initial y p number at =
    MarkedFirst net initial (length y ≡ net.places) number at
    (First (SomeEntry y) (Given 8 0 number at) (First (p < net.places) (Given 13 0 number at) ⊥))
