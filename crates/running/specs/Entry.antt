-- To be believed: the public running replay: its state before the first part, what a part promises, and all that it is asked.
use Rattle.std.specs.Prelude.{Ok, Err}
use Rattle.refusals.specs.Given.{Answer, Fault}
use Rattle.std.specs.Prelude.{ℕ, ◌+◌, ◌≤◌, ◌<◌, ◌≡◌, true, List, [], ◌∷◌, length, get_or}
use Rattle.std.proofs.lemmas.List.Edits.{sets}
use Rattle.ground.specs.Limits.{count_limit, word_limit, tokens_after}
use Rattle.ground.specs.Lists.{table}
use Rattle.net.specs.Net.{Net, Sized, Light, capacity, Capped}
use Rattle.wiring.specs.Wired.{Wired}
use Rattle.refusals.specs.Given.{marked_fault, Fine, Letters}
use Rattle.refusals.specs.First.{First, Given, GivenAt, CountsFirst, LooseFirst, MarkedFirst}
use Rattle.running.specs.State.{is_blocked, fed_of}
use Rattle.running.specs.declared.Running.{Running}
use Rattle.running.specs.declared.Part.{Part}
use Rattle.running.specs.declared.Part.TheVariants.{Fired, Blocked}
use Rattle.running.specs.declared.Fed.{Fed}

-- the state before the first letter, with a marking
abbrev pub fresh_at : List ℕ → Running
fresh_at marking = record { marking = marking; fired = 0; position = 0; place = 0; blocked = 0 }

-- a marking of nothing
abbrev pub empty : List ℕ
empty = table (λ k. 0) count_limit

-- 1, 2, 18, 3 and 17, or the state before the first part: the initial marking, and 0 past it
abbrev pub started_by : Fault → List ℕ → Fed
started_by (Err r) initial = record { state = fresh_at empty; answer = Err r }
started_by (Ok _) initial = record { state = fresh_at (sets empty 0 initial); answer = Ok (Fired 0) }

unfoldable pub start_of : Net → List ℕ → Fed
start_of net initial = started_by (marked_fault net initial true) initial

-- all that is asked of the start: nothing is refused exactly where this holds
pub record StartAllowed (net : Net) (initial : List ℕ) : Type 0 where
  pub sized : Sized net
  pub light : Light net
  pub marked : length initial ≡ net.places
  pub fine : Fine net.caps initial
  pub wired : Wired net

-- its refusals in order, each exactly when its demand is the first that does not hold
abbrev pub StartRefusal : Net → List ℕ → ℕ → ℕ → Type 0
StartRefusal net initial n at = MarkedFirst net initial (true ≡ true) n at ⊥

-- document 01's numbers for each case, as a replay's
abbrev pub numbers : Answer Part → List ℕ
numbers (Ok (Fired n)) = 0x81 ∷ 0 ∷ n ∷ []
numbers (Ok (Blocked c n p)) = 0x81 ∷ c ∷ n ∷ p ∷ []
numbers (Err r) = 0x82 ∷ r.number ∷ r.at ∷ []

-- what a part promises of the lent state at its end and of its answer
abbrev pub Promised : Net → Running → List ℕ → Running → Answer Part → Type 0
Promised net s w s' r = (s' ≡ (fed_of net s w).state) × (r ≡ (fed_of net s w).answer)

-- 3 unless at each place: no more tokens than so many letters can have led to, nor than its capacity
pub record TokensAt (net : Net) (s : Running) (p : ℕ) : Type 0 where
  pub few : get_or s.marking p 0 ≤ tokens_after s.fired
  pub within : Capped net p → get_or s.marking p 0 ≤ capacity net p

-- all that is asked of a part: nothing is refused exactly where this holds
pub record Allowed (net : Net) (s : Running) (w : List ℕ) : Type 0 where
  pub sized : Sized net
  pub light : Light net
  pub tokens : (p : ℕ) → p < net.places → TokensAt net s p
  pub wired : Wired net
  pub short : s.fired + length w ≤ word_limit
  pub letters : Letters net.transitions w
  pub placed : is_blocked s.blocked ≡ true → s.place < net.places

-- its refusals in order, each exactly when its demand is the first that does not hold: n and at are what is given
abbrev pub Refusal : Net → Running → List ℕ → ℕ → ℕ → Type 0
Refusal net s w n at =
    CountsFirst net (true ≡ true) n at
    (First ((p : ℕ) → p < net.places → TokensAt net s p) (GivenAt 3 (TokensAt net s) net.places n at)
    (LooseFirst net n at
    (First (s.fired + length w ≤ word_limit) (Given 4 0 n at)
    (First (Letters net.transitions w) (GivenAt 5 (λ k. get_or w k 0 < net.transitions) (length w) n at)
    (First (is_blocked s.blocked ≡ true → s.place < net.places) (Given 13 0 n at) ⊥)))))
