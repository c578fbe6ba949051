-- To be believed: the complement net into lent rooms; refusals 1, 2, 18, 3, 17 and 10 in order, else the net and its initial marking.
use Rattle.std.specs.Prelude.{Ok, Err}
use Rattle.refusals.specs.Given.{Fault}
use Rattle.std.specs.Prelude.{ℕ, ◌*◌, ◌≤◌, ◌≡◌, Bool, ◌&&◌, List, [], ◌∷◌, length, eqb}
use Rattle.ground.specs.Limits.{count_limit}
use Rattle.net.specs.Net.{Net, Sized, Light}
use Rattle.wiring.specs.Wired.{Wired}
use Rattle.refusals.specs.Given.{or_else, marked_fault, Fine}
use Rattle.refusals.specs.First.{MarkedFirst}
use Rattle.complement.specs.Complement.{complement_places, complement_net, complement_marking}
use Rattle.complement.specs.Told.{limit_fault, LimitFirst}

-- the lent rooms: for Pre, Post, the capacities, the marks and the initial marking
pub record Rooms : Type 0 where
  pub pre : List ℕ
  pub post : List ℕ
  pub caps : List ℕ
  pub marks : List ℕ
  pub initial : List ℕ

abbrev pub rooms_of : List ℕ → List ℕ → List ℕ → List ℕ → List ℕ → Rooms
rooms_of pre post caps marks initial = record { pre = pre; post = post; caps = caps; marks = marks; initial = initial }

-- the rooms' lengths against T x P' and P', else refusal 2, even where that is over 64
abbrev pub lengths_fit : ℕ → ℕ → ℕ → ℕ → ℕ → ℕ → ℕ → Bool
lengths_fit cells places pre post caps marks initial = eqb pre cells && (eqb post cells && (eqb caps places && (eqb marks places && eqb initial places)))

abbrev pub net_fits : Net → ℕ → ℕ → ℕ → ℕ → ℕ → Bool
net_fits net pre post caps marks initial = lengths_fit (net.transitions * complement_places net) (complement_places net) pre post caps marks initial

abbrev pub rooms_fit : Net → Rooms → Bool
rooms_fit net rooms = net_fits net (length rooms.pre) (length rooms.post) (length rooms.caps) (length rooms.marks) (length rooms.initial)

-- 1, 2, 18, 3 and 17 for the net and its initial marking, then 10
unfoldable pub complement_fault : Net → List ℕ → Bool → Fault
complement_fault net initial fits = or_else (marked_fault net initial fits) (limit_fault (complement_places net))

-- an answer, and the rooms left
pub record Wrote : Type 0 where
  pub answer : Fault
  pub left : Rooms

-- the complement net and its initial marking
abbrev pub written : Net → List ℕ → Rooms
written net initial = rooms_of (complement_net net).pre (complement_net net).post (complement_net net).caps (complement_net net).marks (complement_marking net initial)

-- "A refusal leaves lent memory as found."
abbrev pub answered : Fault → Rooms → Rooms → Wrote
answered (Ok _) new rooms = record { answer = Ok tt; left = new }
answered (Err r) new rooms = record { answer = Err r; left = rooms }

abbrev pub complement_of : Net → List ℕ → Rooms → Wrote
complement_of net initial rooms = answered (complement_fault net initial (rooms_fit net rooms)) (written net initial) rooms

-- numbers for each case: 81 00; 82, a refusal's number and position
abbrev pub numbers : Fault → List ℕ
numbers (Ok _) = 0x81 ∷ 0 ∷ []
numbers (Err r) = 0x82 ∷ r.number ∷ r.at ∷ []

-- what is promised of the answer r and of the rooms at the end
pub record Complemented (net : Net) (initial : List ℕ) (rooms : Rooms) (r : Fault) (rooms' : Rooms) : Type 0 where
  pub answer : numbers r ≡ numbers (complement_of net initial rooms).answer
  pub left : rooms' ≡ (complement_of net initial rooms).left

-- each room has the new net's length
pub record Roomy (net : Net) (rooms : Rooms) : Type 0 where
  pub pres : length rooms.pre ≡ net.transitions * complement_places net
  pub posts : length rooms.post ≡ net.transitions * complement_places net
  pub capped : length rooms.caps ≡ complement_places net
  pub noted : length rooms.marks ≡ complement_places net
  pub initials : length rooms.initial ≡ complement_places net

-- all that document 01 asks of what is lent: nothing is refused exactly where this holds
pub record Allowed (net : Net) (initial : List ℕ) (rooms : Rooms) : Type 0 where
  pub sized : Sized net
  pub light : Light net
  pub marked : length initial ≡ net.places
  pub roomy : Roomy net rooms
  pub fine : Fine net.caps initial
  pub wired : Wired net
  pub few : complement_places net ≤ count_limit

-- what refusal n at position at means, demand by demand: 1, 2, 18, 3, 17, 10
abbrev pub Refusal : Net → List ℕ → Rooms → ℕ → ℕ → Type 0
Refusal net initial rooms n at = MarkedFirst net initial (Roomy net rooms) n at (LimitFirst net n at)
