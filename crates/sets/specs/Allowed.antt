-- To be believed: what 01 asks of what is lent for a set, and which refusal is given exactly when.
use Rattle.std.specs.Prelude.{ℕ, ◌≡◌, List, length}
use Rattle.net.specs.Net.{Net, Light, Sized}
use Rattle.wiring.specs.Wired.{Wired}
use Rattle.refusals.specs.First.{First, Given, NetFirst}
use Rattle.sets.specs.Sets.{In}

-- 8 unless: not "a set without places"
abbrev pub SomePlace : List ℕ → Type 0
SomePlace s = ((p : ℕ) → In s p → ⊥) → ⊥

-- a set that no refusal meets
pub record Allowed (net : Net) (s : List ℕ) : Type 0 where
  pub sized : Sized net
  pub light : Light net
  pub long : length s ≡ net.places
  pub wired : Wired net
  pub some : SomePlace s

-- else the refusal of the first demand that does not hold
abbrev pub Refusal : Net → List ℕ → ℕ → ℕ → Type 0
Refusal net s number at = NetFirst net (length s ≡ net.places) number at (First (SomePlace s) (Given 8 0 number at) ⊥)
