-- To be believed: firing as published: 001's relation m[t> m' with its capacity rule, 002's for pockets, and the words and markings that follow from it.
-- It is said of every net, whether or not each node has an arc; that a net with a loose one is refused is 02's, E4 (wiring/specs/Wired.antt).
use Rattle.std.specs.Prelude.{ℕ, ◌+◌, ◌≤◌, ◌<◌, ◌≡◌, cond, List, [], ◌∷◌, length, eqb, ℤ, pos, ◌+ℤ◌, ◌≤ℤ◌, ◌<ℤ◌}
use Rattle.net.specs.Net.{Net, Pre, Post, Change, capacity, Capped, mark, tokens}
use Rattle.net.specs.declared.Cause.{Cause}
use Rattle.net.specs.declared.Cause.TheVariants.{Short, Over}

-- "m(p) + Change(p,t)"
abbrev pub result : Net → List ℕ → ℕ → ℕ → ℤ
result net m t p = pos (tokens m p) +ℤ Change net p t

-- one place: "Pre(p,t) <= m(p)"
abbrev pub Covers : Net → List ℕ → ℕ → ℕ → Type 0
Covers net m t p = Pre net p t ≤ tokens m p

-- What the capacity rule looks at, by the place's mark. A plain place: "m(p) + Change(p,t)", which is 001's. A pocket: "tokens plus Post",
-- which is 002's; there what arrives finds all the tokens still in place.
abbrev pub plain_level : Net → List ℕ → ℕ → ℕ → ℤ
plain_level net m t p = result net m t p

abbrev pub pocket_level : Net → List ℕ → ℕ → ℕ → ℤ
pocket_level net m t p = pos (tokens m p + Post net p t)

unfoldable pub level : Net → List ℕ → ℕ → ℕ → ℤ
level net m t p = cond (eqb (mark net p) 0) (plain_level net m t p) (pocket_level net m t p)

-- one place: "m(p) + Change(p,t) <= capacity where there is one"; for pockets "tokens plus Post must keep to the capacity"
abbrev pub Keeps : Net → List ℕ → ℕ → ℕ → Type 0
Keeps net m t p = Capped net p → level net m t p ≤ℤ pos (capacity net p)

-- "Transition t is enabled at m if at every place" both hold.
pub record Enabled (net : Net) (m : List ℕ) (t : ℕ) : Type 0 where
  pub covers : (p : ℕ) → p < net.places → Covers net m t p
  pub keeps : (p : ℕ) → p < net.places → Keeps net m t p

-- "Firing gives m(p) + Change(p,t)." m' is that marking.
pub record Gives (net : Net) (m : List ℕ) (t : ℕ) (m' : List ℕ) : Type 0 where
  pub long : length m' ≡ net.places
  pub at : (p : ℕ) → p < net.places → pos (tokens m' p) ≡ result net m t p

-- m[t> m': the transition t is enabled at m, and firing it gives m'
pub record Firing (net : Net) (m : List ℕ) (t : ℕ) (m' : List ℕ) : Type 0 where
  pub named : t < net.transitions
  pub enabled : Enabled net m t
  pub gives : Gives net m t m'

-- "A word fires letter by letter. The empty word fires and changes nothing." The word fires from the first marking to the last.
pub data Fires (net : Net) : List ℕ → List ℕ → List ℕ → Type 0 where
  nothing : {m : List ℕ} → Fires net m [] m
  letter : {m m' m'' : List ℕ} {t : ℕ} {w : List ℕ} → Firing net m t m' → Fires net m' w m'' → Fires net m (t ∷ w) m''

-- m' "is reachable from m": some word fires from m to m' (001, "Reachability")
pub record Reachable (net : Net) (m m' : List ℕ) : Type 0 where
  pub word : List ℕ
  pub fires : Fires net m word m'

-- a marking within capacities
pub record Within (net : Net) (m : List ℕ) : Type 0 where
  pub long : length m ≡ net.places
  pub at : (p : ℕ) → p < net.places → Capped net p → tokens m p ≤ capacity net p

-- a blocked answer's causes: "short of tokens at a place, or over capacity at a place"
abbrev pub ShortAt : Net → List ℕ → ℕ → ℕ → Type 0
ShortAt net m t p = tokens m p < Pre net p t

abbrev pub OverAt : Net → List ℕ → ℕ → ℕ → Type 0
OverAt net m t p = Capped net p × (pos (capacity net p) <ℤ level net m t p)

-- "If any place is short, the lowest short place is named"
pub record LowestShort (net : Net) (m : List ℕ) (t p : ℕ) : Type 0 where
  pub here : p < net.places
  pub short : ShortAt net m t p
  pub lowest : (q : ℕ) → q < p → Covers net m t q

-- "else the lowest place over."
pub record LowestOver (net : Net) (m : List ℕ) (t p : ℕ) : Type 0 where
  pub here : p < net.places
  pub covers : (q : ℕ) → q < net.places → Covers net m t q
  pub over : OverAt net m t p
  pub lowest : (q : ℕ) → q < p → Keeps net m t q

-- what a cause says of the letter t at m
abbrev pub Names : Net → List ℕ → ℕ → Cause → Type 0
Names net m t (Short p) = LowestShort net m t p
Names net m t (Over p) = LowestOver net m t p

-- a cause in numbers: which of the two it is, its place, and all that it carries
abbrev pub cause_number : Cause → ℕ
cause_number (Short p) = 1
cause_number (Over p) = 2

abbrev pub cause_place : Cause → ℕ
cause_place (Short p) = p
cause_place (Over p) = p

abbrev pub cause_values : Cause → List ℕ
cause_values why = cause_place why ∷ []
