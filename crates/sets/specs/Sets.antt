-- To be believed: siphons and traps as document 01 defines them ("Weightings, siphons, traps": "in the usual textbook sense").
use Rattle.std.specs.Prelude.{ℕ, ◌<◌, ◌≡◌, List, get_or}
use Rattle.net.specs.Net.{Net, Pre, Post, tokens}

-- "A set of places, lent as P bytes with 0 for out": the place p is in it
abbrev pub In : List ℕ → ℕ → Type 0
In s p = 0 < get_or s p 0

-- one of the P places is in the set and has a number that is not 0
pub record Some (P : ℕ) (s : List ℕ) (number : ℕ → ℕ) : Type 0 where
  pub place : ℕ
  pub here : place < P
  pub member : In s place
  pub some : 0 < number place

-- the transition t "puts into it", into one of its places at least
abbrev pub PutsInto : Net → List ℕ → ℕ → Type 0
PutsInto net s t = Some net.places s (λ p. Post net p t)

-- "takes from it"
abbrev pub TakesFrom : Net → List ℕ → ℕ → Type 0
TakesFrom net s t = Some net.places s (λ p. Pre net p t)

-- "is a siphon if every transition that puts into it also takes from it,"
abbrev pub Siphon : Net → List ℕ → Type 0
Siphon net s = (t : ℕ) → t < net.transitions → PutsInto net s t → TakesFrom net s t

-- "a trap if every one that takes from it also puts into it."
abbrev pub Trap : Net → List ℕ → Type 0
Trap net s = (t : ℕ) → t < net.transitions → TakesFrom net s t → PutsInto net s t

-- "A no, here or for a set, names the lowest failing transition": of T, t does the one and not the other, and no lower one does so
pub record Fails (T : ℕ) (does also : ℕ → Type 0) (t : ℕ) : Type 0 where
  pub here : t < T
  pub one : does t
  pub other : also t → ⊥
  pub lowest : (u : ℕ) → u < t → does u → also u

abbrev pub SiphonFails : Net → List ℕ → ℕ → Type 0
SiphonFails net s t = Fails net.transitions (PutsInto net s) (TakesFrom net s) t

abbrev pub TrapFails : Net → List ℕ → ℕ → Type 0
TrapFails net s t = Fails net.transitions (TakesFrom net s) (PutsInto net s) t

-- one of the set's places has a token; none of them has
abbrev pub Marked : Net → List ℕ → List ℕ → Type 0
Marked net s m = Some net.places s (tokens m)

pub record Unmarked (net : Net) (s m : List ℕ) : Type 0 where
  pub at : (p : ℕ) → p < net.places → In s p → tokens m p ≡ 0
