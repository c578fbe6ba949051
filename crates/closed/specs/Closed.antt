-- To be believed: closed lists as published (document 01, "Marking lists").
use Rattle.std.specs.Prelude.{ℕ, ◌<◌, ◌≡◌, List}
use Rattle.net.specs.Net.{Net}
use Rattle.net.specs.Firing.{Enabled, Firing}
use Rattle.lists.specs.Whole.{count, marking_at}

-- m is one of the list's markings
pub record Listed (P : ℕ) (list m : List ℕ) : Type 0 where
  pub number : ℕ
  pub inside : number < count P list
  pub is : marking_at P list number ≡ m

-- marking number k of the list, and t enabled there with the result m'
abbrev pub FiringAt : Net → List ℕ → ℕ → ℕ → List ℕ → Type 0
FiringAt net list k t m' = Firing net (marking_at net.places list k) t m'

-- t is not enabled at marking number k, or its result is listed
abbrev pub EnabledResultListed : Net → List ℕ → ℕ → ℕ → Type 0
EnabledResultListed net list k t = (m' : List ℕ) → FiringAt net list k t m' → Listed net.places list m'

-- "A closed list is accepted if it holds the initial marking and, for each listed marking and each transition enabled there, the result."
pub record IsClosed (net : Net) (initial list : List ℕ) : Type 0 where
  pub starts : Listed net.places list initial
  pub holds : (k t : ℕ) → k < count net.places list → EnabledResultListed net list k t

-- "the first listed marking, and in it the lowest transition, whose result is absent"
pub record FirstMissing (net : Net) (list : List ℕ) (k t : ℕ) : Type 0 where
  pub inside : k < count net.places list
  pub result : List ℕ
  pub fires : FiringAt net list k t result
  pub absent : Listed net.places list result → ⊥
  pub lower : (u : ℕ) → u < t → EnabledResultListed net list k u
  pub earlier : (j u : ℕ) → j < k → EnabledResultListed net list j u

-- "every listed marking enables something"
pub record AllEnable (net : Net) (list : List ℕ) : Type 0 where
  pub transition : ℕ → ℕ
  pub named : (k : ℕ) → k < count net.places list → transition k < net.transitions
  pub enabled : (k : ℕ) → k < count net.places list → Enabled net (marking_at net.places list k) (transition k)

-- "otherwise": a listed marking enables nothing. It need not be reachable: that is no stall of the line
pub record DeadListed (net : Net) (list : List ℕ) : Type 0 where
  pub number : ℕ
  pub inside : number < count net.places list
  pub enables_none_lem : (t : ℕ) → t < net.transitions → Enabled net (marking_at net.places list number) t → ⊥
