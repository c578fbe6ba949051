-- To be believed: the public replay: refusals 1, 2, 18, 3, 17, 4 and 5 in order, else the replay from the initial marking.
use Rattle.std.specs.Prelude.{Ok, Err}
use Rattle.refusals.specs.Given.{Answer, Fault}
use Rattle.std.specs.Prelude.{ℕ, ◌≤◌, ◌<◌, ◌≡◌, Bool, true, ◌&&◌, List, [], ◌∷◌, length, take, eqb}
use Rattle.ground.specs.Limits.{word_limit}
use Rattle.net.specs.Net.{Net, Sized, Light}
use Rattle.net.specs.Firing.{Fires, cause_number, cause_values}
use Rattle.wiring.specs.Wired.{Wired}
use Rattle.refusals.specs.Given.{or_else, marked_fault, word_fault, Fine, Letters}
use Rattle.refusals.specs.First.{MarkedFirst, WordFirst}
use Rattle.plays.specs.Replay.{Ran, play_from}
use Rattle.plays.specs.declared.Replay.{Replay}
use Rattle.plays.specs.declared.Replay.TheVariants.{Fired, Blocked}

-- 1, 2, 18, 3 and 17, then 4 and 5; `fits` tells whether the room's length and the stretch's ends are right
unfoldable pub replay_fault : Net → List ℕ → List ℕ → Bool → Fault
replay_fault net initial w fits = or_else (marked_fault net initial fits) (word_fault net.transitions w)

-- "A refusal leaves lent memory as found."
pub record Answered : Type 0 where
  pub answer : Answer Replay
  pub left : List ℕ

abbrev pub answered : Fault → Ran → List ℕ → Answered
answered (Ok _) ran room = record { answer = Ok ran.answer; left = ran.left }
answered (Err r) ran room = record { answer = Err r; left = room }

-- the whole answer to the word w, where `within` tells whether it is a stretch inside its word
abbrev pub replay_of : Net → List ℕ → List ℕ → Bool → List ℕ → Answered
replay_of net initial w within room =
    answered (replay_fault net initial w (eqb (length room) net.places && within)) (play_from net 0 initial w) room

-- document 01's numbers for each case: 81 00 and the letters fired; 81 01 (short) or 81 02 (over), position and place;
-- 82, a refusal's number and position
abbrev pub numbers : Answer Replay → List ℕ
numbers (Ok (Fired n)) = 0x81 ∷ 0 ∷ n ∷ []
numbers (Ok (Blocked i why)) = 0x81 ∷ cause_number why ∷ i ∷ cause_values why
numbers (Err r) = 0x82 ∷ r.number ∷ r.at ∷ []

-- what a replay promises of its answer r and of the room at its end
pub record Replayed (net : Net) (initial w : List ℕ) (within : Bool) (room : List ℕ) (r : Answer Replay) (room' : List ℕ) : Type 0 where
  pub answer : numbers r ≡ numbers (replay_of net initial w within room).answer
  pub left : room' ≡ (replay_of net initial w within room).left

-- all that document 01 asks of what a replay is lent: nothing is refused exactly where this holds
pub record Allowed (net : Net) (initial w : List ℕ) (within : Bool) (room : List ℕ) : Type 0 where
  pub sized : Sized net
  pub light : Light net
  pub marked : length initial ≡ net.places
  pub roomy : length room ≡ net.places
  pub inside : within ≡ true
  pub fine : Fine net.caps initial
  pub wired : Wired net
  pub short : length w ≤ word_limit
  pub letters : Letters net.transitions w

-- its refusals "in number order", each exactly when its demand is the first that does not hold: n and at are what is given
abbrev pub Refusal : Net → List ℕ → List ℕ → Bool → List ℕ → ℕ → ℕ → Type 0
Refusal net initial w within room n at =
    MarkedFirst net initial ((length room ≡ net.places) × (within ≡ true)) n at (WordFirst net.transitions w n at ⊥)

-- the letters fired
abbrev pub letters_fired : Answer Replay → ℕ
letters_fired (Ok (Fired n)) = n
letters_fired (Ok (Blocked n why)) = n
letters_fired (Err r) = 0

-- "The number of letters fired equals the length of the longest prefix that fires", which leads to m'
pub record Longest (net : Net) (m w : List ℕ) (k : ℕ) (m' : List ℕ) : Type 0 where
  pub within : k ≤ length w
  pub fires : Fires net m (take k w) m'
  pub more : (j : ℕ) → k < j → j ≤ length w → (m'' : List ℕ) → Fires net m (take j w) m'' → ⊥
