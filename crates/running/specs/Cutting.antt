-- To be believed: a log in parts: document 02, E7: "For any cutting, empty parts allowed, with valid letters and 65,535 in all, the last state agrees with replaying the whole."
use Rattle.refusals.specs.Given.{Answer}
use Rattle.std.specs.Prelude.{Ok, Err, ℕ, ◌+◌, ◌<◌, ◌≡◌, List, [], ◌∷◌, ◌++◌, length, get_or}
use Rattle.ground.specs.Limits.{count_limit}
use Rattle.net.specs.Net.{Net}
use Rattle.net.specs.Firing.{Names, cause_number}
use Rattle.net.specs.declared.Cause.{Cause}
use Rattle.plays.specs.declared.Replay.{Replay}
use Rattle.plays.specs.declared.Replay.TheVariants.{Fired, Blocked}
use Rattle.replay.specs.Entry as replay
use Rattle.replay.specs.Entry.{Longest}
use Rattle.running.specs.State.{held, cause_place, fed_of}
use Rattle.running.specs.Entry.{numbers, Promised}
use Rattle.running.specs.declared.Running.{Running}
use Rattle.running.specs.declared.Part.{Part}
use Rattle.running.specs.declared.Fed.{Fed}

-- a state has a slot for each place that a net can have, as its array does
abbrev pub Slotted : Running → Type 0
Slotted s = length s.marking ≡ count_limit

-- the whole log
unfoldable pub whole : List (List ℕ) → List ℕ
whole [] = []
whole (u ∷ us) = u ++ whole us

-- the state and the answer after the last part; before the first they are f
unfoldable pub fed_all : Net → Fed → List (List ℕ) → Fed
fed_all net f [] = f
fed_all net f (u ∷ us) = fed_all net (fed_of net f.state u) us

-- calls that keep their promise, one for each part, on one state: s and r before the first of them, s' and r' after the last
pub data Calls (net : Net) : Running → Answer Part → List (List ℕ) → Running → Answer Part → Type 0 where
  no_call : {s : Running} {r : Answer Part} → Calls net s r [] s r
  then_call : {s s₁ s' : Running} {r r₁ r' : Answer Part} {u : List ℕ} {us : List (List ℕ)} → Promised net s u s₁ r₁ → Calls net s₁ r₁ us s' r' → Calls net s r (u ∷ us) s' r'

-- a state holds the block of a replay's answer, or none
abbrev pub HoldsBlock : Running → Answer Replay → Type 0
HoldsBlock s (Ok (Fired n)) = s.blocked ≡ 0
HoldsBlock s (Ok (Blocked n why)) = (s.blocked ≡ cause_number why) × (s.position ≡ n) × (s.place ≡ cause_place why)
HoldsBlock s (Err r) = ⊥

-- a state and an answer agree with a replay's answer and the marking that it left
pub record Agrees (net : Net) (f : Fed) (r : Answer Replay) (m : List ℕ) : Type 0 where
  pub answer : numbers f.answer ≡ replay.numbers r
  pub marking : held net f.state ≡ m
  pub fired : f.state.fired ≡ replay.letters_fired r
  pub block : HoldsBlock f.state r

-- a part goes on from the state's marking: the letters that it fires are its longest prefix that does, which leads to the marking of the state after it
pub record Resumed (net : Net) (s : Running) (w : List ℕ) (s' : Running) : Type 0 where
  pub letters : ℕ
  pub counted : s'.fired ≡ s.fired + letters
  pub longest : Longest net (held net s) w letters (held net s')

-- a block newly found: a letter's number in the part and a cause that is true of it at the marking left; the position counts from the first part
pub record BlockedBy (net : Net) (s : Running) (w : List ℕ) (s' : Running) (number position place : ℕ) : Type 0 where
  pub letter : ℕ
  pub why : Cause
  pub here : letter < length w
  pub named : Names net (held net s') (get_or w letter 0) why
  pub counted : position ≡ s.fired + letter
  pub caused : number ≡ cause_number why
  pub placed : place ≡ cause_place why

-- two states and answers that differ at most in the slots past the net's places
pub record Alike (net : Net) (f g : Fed) : Type 0 where
  pub answer : f.answer ≡ g.answer
  pub marking : held net f.state ≡ held net g.state
  pub fired : f.state.fired ≡ g.state.fired
  pub position : f.state.position ≡ g.state.position
  pub place : f.state.place ≡ g.state.place
  pub blocked : f.state.blocked ≡ g.state.blocked
