-- To be believed: weightings as document 01 defines them ("Weightings, siphons, traps", after 001), in signed numbers.
use Rattle.std.specs.Prelude.{ℕ, zero, suc, ◌+◌, ◌<◌, ◌≡◌, List, [], ◌∷◌, get_or, eqb, ℤ, pos, ◌+ℤ◌, ◌*ℤ◌, ◌≤ℤ◌}
use Rattle.ground.specs.Lists.{bit}
use Rattle.net.specs.Net.{Net, Change, tokens}

-- the sum over k < n of f k
unfoldable pub sum : ℕ → (ℕ → ℤ) → ℤ
sum zero f = pos 0
sum (suc n) f = sum n f +ℤ f n

-- y(p) of a place weighting, x(t) of a transition weighting
abbrev pub entry : List ℤ → ℕ → ℤ
entry y k = get_or y k (pos 0)

-- "the sum over p of y(p) x Change(p,t)"
abbrev pub place_sum : Net → List ℤ → ℕ → ℤ
place_sum net y t = sum net.places (λ p. entry y p *ℤ Change net p t)

-- "A place weighting y is invariant if for each t" that sum "is 0."
pub record PlaceInvariant (net : Net) (y : List ℤ) : Type 0 where
  pub at : (t : ℕ) → t < net.transitions → place_sum net y t ≡ pos 0

-- "the sum over t of Change(p,t) x x(t)"
abbrev pub transition_sum : Net → List ℤ → ℕ → ℤ
transition_sum net x p = sum net.transitions (λ t. Change net p t *ℤ entry x t)

-- "A transition weighting x is invariant if for each p" that sum "is 0,"
pub record TransitionInvariant (net : Net) (x : List ℤ) : Type 0 where
  pub at : (p : ℕ) → p < net.places → transition_sum net x p ≡ pos 0

-- "and proper if no entry is negative."
pub record NoNegative (y : List ℤ) : Type 0 where
  pub at : (k : ℕ) → pos 0 ≤ℤ entry y k

-- "sum of y x initial marking", of any marking
abbrev pub weight : Net → List ℤ → List ℕ → ℤ
weight net y m = sum net.places (λ p. entry y p *ℤ pos (tokens m p))

-- how often the letter t stands in a word
unfoldable pub count : List ℕ → ℕ → ℕ
count [] t = 0
count (u ∷ w) t = bit (eqb u t) + count w t

-- "names the lowest failing transition or place": of n numbers, i is the lowest that is not 0
pub record Lowest (f : ℕ → ℤ) (n i : ℕ) : Type 0 where
  pub here : i < n
  pub fails : f i ≡ pos 0 → ⊥
  pub lowest : (k : ℕ) → k < i → f k ≡ pos 0
