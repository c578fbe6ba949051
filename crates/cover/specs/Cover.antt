-- To be believed: cover lists as published (document 01, "Marking lists"), over 001's ω-markings.
use Rattle.std.specs.Prelude.{ℕ, ◌<◌, List}
use Rattle.net.specs.Net.{Net, Pre, Post}
use Rattle.net.specs.Firing.{Reachable}
use Rattle.lists.specs.Whole.{count, marking_at}
use Rattle.cover.specs.Number.{Number, nat, listed, marking, CoversMarking, after}

-- "m is called coverable in N, if there exists a reachable marking m' which covers m." (001)
pub record Coverable (net : Net) (initial m : List ℕ) : Type 0 where
  pub reached : List ℕ
  pub reachable : Reachable net initial reached
  pub covers : CoversMarking net.places (marking reached) (marking m)

-- what t takes: 001's t⁻
abbrev pub taken : Net → ℕ → ℕ → Number
taken net t p = nat (Pre net p t)

-- "t is enabled at m iff t⁻ ≤ m" (001): the ω-marking x covers what t takes. "Capacities are ignored there."
pub record CoverEnabled (net : Net) (x : ℕ → Number) (t : ℕ) : Type 0 where
  pub named : t < net.transitions
  pub enough : CoversMarking net.places x (taken net t)

-- and its result there, "m' = m + Δt"
abbrev pub result_at : Net → ℕ → (ℕ → Number) → ℕ → Number
result_at net t x p = after (Pre net p t) (Post net p t) (x p)

-- a listed marking covers x
pub record ListCovers (P : ℕ) (list : List ℕ) (x : ℕ → Number) : Type 0 where
  pub number : ℕ
  pub inside : number < count P list
  pub covers : CoversMarking P (listed (marking_at P list number)) x

-- t is enabled at marking number k, and its result there is covered
abbrev pub EnabledAt : Net → List ℕ → ℕ → ℕ → Type 0
EnabledAt net list k t = CoverEnabled net (listed (marking_at net.places list k)) t

abbrev pub ResultCovered : Net → List ℕ → ℕ → ℕ → Type 0
ResultCovered net list k t = ListCovers net.places list (result_at net t (listed (marking_at net.places list k)))

-- "The list is accepted if one of its markings covers the initial marking and each enabled result is covered by a listed marking."
pub record IsCover (net : Net) (initial list : List ℕ) : Type 0 where
  pub starts : ListCovers net.places list (marking initial)
  pub holds : (k t : ℕ) → k < count net.places list → EnabledAt net list k t → ResultCovered net list k t

-- "A failure is named as for a closed list": the first listed marking, and in it the lowest transition, whose result is not covered
pub record FirstMissing (net : Net) (list : List ℕ) (k t : ℕ) : Type 0 where
  pub inside : k < count net.places list
  pub able : EnabledAt net list k t
  pub uncovered : ResultCovered net list k t → ⊥
  pub lower : (u : ℕ) → u < t → EnabledAt net list k u → ResultCovered net list k u
  pub earlier : (j u : ℕ) → j < k → EnabledAt net list j u → ResultCovered net list j u
