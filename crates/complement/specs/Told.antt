-- To be believed: the public question beside the complement net, how many places it has.
use Rattle.std.specs.Prelude.{Ok, Err}
use Rattle.refusals.specs.Given.{Answer, Fault}
use Rattle.std.specs.Prelude.{ℕ, ◌≤◌, ◌≡◌, true, List, [], ◌∷◌, ltb}
use Rattle.ground.specs.Limits.{count_limit}
use Rattle.net.specs.Net.{Net, Sized, Light}
use Rattle.wiring.specs.Wired.{Wired}
use Rattle.refusals.specs.Given.{refuse, or_else, net_fault}
use Rattle.refusals.specs.First.{First, Given, NetFirst}
use Rattle.complement.specs.Complement.{complement_places}

-- 10: "old plus complement places over 64"; 02, E4: "the room in refusal 10 counts only those made"
unfoldable pub limit_fault : ℕ → Fault
limit_fault n = refuse (ltb count_limit n) 10 0

-- 1, 2, 18 and 17 for the net, then 10
unfoldable pub places_fault : Net → Fault
places_fault net = or_else (net_fault net true) (limit_fault (complement_places net))

-- the places, where nothing is refused
abbrev pub places_of : Net → Answer ℕ
places_of net = or_else (places_fault net) (Ok (complement_places net))

-- numbers for each case: 81 00 and the places; 82, a refusal's number and position
abbrev pub places_numbers : Answer ℕ → List ℕ
places_numbers (Ok n) = 0x81 ∷ 0 ∷ n ∷ []
places_numbers (Err r) = 0x82 ∷ r.number ∷ r.at ∷ []

-- what the question promises of its answer r
pub record Told (net : Net) (r : Answer ℕ) : Type 0 where
  pub answer : places_numbers r ≡ places_numbers (places_of net)

-- all that document 01 asks: nothing is refused exactly where this holds
pub record Countable (net : Net) : Type 0 where
  pub sized : Sized net
  pub light : Light net
  pub wired : Wired net
  pub few : complement_places net ≤ count_limit

-- 10 unless old plus complement places are at most 64; the last demand of both entries
abbrev pub LimitFirst : Net → ℕ → ℕ → Type 0
LimitFirst net n at = First (complement_places net ≤ count_limit) (Given 10 0 n at) ⊥

-- what refusal n at position at means, demand by demand: 1, 2, 18, 17, 10. Nothing beside the net is lent.
abbrev pub PlacesRefusal : Net → ℕ → ℕ → Type 0
PlacesRefusal net n at = NetFirst net (Unit {0}) n at (LimitFirst net n at)
