-- To be believed: "Exactly when": 01's table of refusals, read demand by demand. The first demand that does not hold gives its number and position.
use Rattle.std.specs.Prelude.{ℕ, ◌+◌, ◌*◌, ◌≤◌, ◌<◌, ◌≡◌, List, length, get_or}
use Rattle.ground.specs.Limits.{count_limit, token_limit, word_limit}
use Rattle.net.specs.Net.{Net}
use Rattle.wiring.specs.Wired.{PlaceWired, TransitionWired}
use Rattle.weights.specs.Heavy.{LightAt}
use Rattle.refusals.specs.Given.{Fine, Letters}

-- the demand does not hold, and what is given is `Given`; or it holds, and what comes next decides
pub data First (Demand Given Next : Type 0) : Type 0 where
  fails : (Demand → ⊥) → Given → First Demand Given Next
  holds : Demand → Next → First Demand Given Next

-- n and at are number k and position p
pub record Given (k p n at : ℕ) : Type 0 where
  pub number : n ≡ k
  pub position : at ≡ p

-- n and at are number k and the lowest of so many positions at which the demand does not hold
pub record GivenAt (k : ℕ) (Demand : ℕ → Type 0) (count n at : ℕ) : Type 0 where
  pub number : n ≡ k
  pub here : at < count
  pub fails : Demand at → ⊥
  pub lowest : (p : ℕ) → p < at → Demand p

-- n and at are as `Told` says, but that the position is so much above it
pub record Above (base : ℕ) (Told : ℕ → ℕ → Type 0) (n at : ℕ) : Type 0 where
  pub below : ℕ
  pub position : at ≡ base + below
  pub told : Told n below

-- 1 unless both counts are in range
pub record Counts (net : Net) : Type 0 where
  pub some_places : 1 ≤ net.places
  pub few_places : net.places ≤ count_limit
  pub some_transitions : 1 ≤ net.transitions
  pub few_transitions : net.transitions ≤ count_limit

-- 2 unless the net's lists have the lengths that the counts say, and all else that is lent has its own
pub record Lengths (net : Net) (Others : Type 0) : Type 0 where
  pub pres : length net.pre ≡ net.transitions * net.places
  pub posts : length net.post ≡ net.transitions * net.places
  pub capped : length net.caps ≡ net.places
  pub noted : length net.marks ≡ net.places
  pub others : Others

-- 3 unless at each place: no more tokens than may be given, nor than its capacity
pub record FineAt (caps m : List ℕ) (p : ℕ) : Type 0 where
  pub few : get_or m p 0 ≤ token_limit
  pub within : get_or m p 0 ≤ get_or caps p 0

-- The chains of Given.antt, read so; `Next` is what comes after them.
-- counts, lengths and weights: 18 at the lowest transition with a weight over the limit
abbrev pub CountsFirst : Net → Type 0 → ℕ → ℕ → Type 0 → Type 0
CountsFirst net Others n at Next =
    First (Counts net) (Given 1 0 n at)
    (First (Lengths net Others) (Given 2 0 n at)
    (First ((t : ℕ) → t < net.transitions → LightAt net t) (GivenAt 18 (LightAt net) net.transitions n at) Next))

-- loose nodes: 17 at the lowest place that has no arc; 17 at 64 plus the lowest transition that has none
abbrev pub LooseFirst : Net → ℕ → ℕ → Type 0 → Type 0
LooseFirst net n at Next =
    First ((p : ℕ) → p < net.places → PlaceWired net p) (GivenAt 17 (PlaceWired net) net.places n at)
    (First ((t : ℕ) → t < net.transitions → TransitionWired net t) (Above count_limit (GivenAt 17 (TransitionWired net) net.transitions) n at) Next)

-- a net without a marking
abbrev pub NetFirst : Net → Type 0 → ℕ → ℕ → Type 0 → Type 0
NetFirst net Others n at Next = CountsFirst net Others n at (LooseFirst net n at Next)

-- counts, lengths, weights and the initial marking
abbrev pub StartFirst : Net → List ℕ → Type 0 → ℕ → ℕ → Type 0 → Type 0
StartFirst net initial Others n at Next =
    CountsFirst net ((length initial ≡ net.places) × Others) n at
    (First (Fine net.caps initial) (GivenAt 3 (FineAt net.caps initial) (length initial) n at) Next)

-- a net and its marking
abbrev pub MarkedFirst : Net → List ℕ → Type 0 → ℕ → ℕ → Type 0 → Type 0
MarkedFirst net initial Others n at Next = StartFirst net initial Others n at (LooseFirst net n at Next)

-- a word over so many transitions: 4 unless it is not too long; 5, with the first letter that names no transition
abbrev pub WordFirst : ℕ → List ℕ → ℕ → ℕ → Type 0 → Type 0
WordFirst T w n at Next =
    First (length w ≤ word_limit) (Given 4 0 n at) (First (Letters T w) (GivenAt 5 (λ k. get_or w k 0 < T) (length w) n at) Next)
