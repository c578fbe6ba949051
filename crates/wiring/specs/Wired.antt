-- To be believed: document 02, E4: "a net in which some place or transition has no arc is refused, as source document 001 demands. This sets aside 01's choice of 003."
use Rattle.std.specs.Prelude.{ℕ, ◌+◌, ◌<◌, Bool, not, ltb}
use Rattle.ground.specs.Lists.{first}
use Rattle.net.specs.Net.{Net, Pre, Post}

-- there is an arc between place p and transition t, in one direction or both: "0 meaning no arc"
abbrev pub Arc : Net → ℕ → ℕ → Type 0
Arc net p t = 0 < Pre net p t + Post net p t

-- place p has an arc
pub record PlaceWired (net : Net) (p : ℕ) : Type 0 where
  pub transition : ℕ
  pub named : transition < net.transitions
  pub arc : Arc net p transition

-- transition t has one
pub record TransitionWired (net : Net) (t : ℕ) : Type 0 where
  pub place : ℕ
  pub here : place < net.places
  pub arc : Arc net place t

-- no place and no transition hangs loose
pub record Wired (net : Net) : Type 0 where
  pub places : (p : ℕ) → p < net.places → PlaceWired net p
  pub transitions : (t : ℕ) → t < net.transitions → TransitionWired net t

-- The same by tests: an arc; whether a place, and a transition, hangs loose; the lowest such one, or the number of all.
abbrev pub arc : Net → ℕ → ℕ → Bool
arc net p t = ltb 0 (Pre net p t + Post net p t)

unfoldable pub loose_place : Net → ℕ → Bool
loose_place net p = not (ltb (first (arc net p) net.transitions) net.transitions)

unfoldable pub loose_transition : Net → ℕ → Bool
loose_transition net t = not (ltb (first (λ p. arc net p t) net.places) net.places)

abbrev pub lowest_loose_place : Net → ℕ
lowest_loose_place net = first (loose_place net) net.places

abbrev pub lowest_loose_transition : Net → ℕ
lowest_loose_transition net = first (loose_transition net) net.transitions
