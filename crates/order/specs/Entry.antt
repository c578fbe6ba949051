-- To be believed: two logs put into an order that fires: refusals 1 2 18 3 17 4 15 5, else the order that is given, or none.
use Rattle.std.specs.Prelude.{Ok, Err}
use Rattle.refusals.specs.Given.{Answer, Fault}
use Rattle.std.specs.Prelude.{ℕ, ◌+◌, ◌≤◌, ◌<◌, ◌≡◌, Bool, ◌&&◌, List, [], ◌∷◌, length, get_or, replicate, eqb}
use Rattle.net.specs.Net.{Net, Sized, Light}
use Rattle.wiring.specs.Wired.{Wired}
use Rattle.refusals.specs.Given.{or_else, marked_fault, word_fault, Fine, Letters}
use Rattle.refusals.specs.First.{First, GivenAt, MarkedFirst}
use Rattle.orders.specs.Orders.{logs_of}
use Rattle.orders.specs.Lengths.{log_limit, work_length, long_fault, LongFirst}
use Rattle.orders.specs.Search.{Way, no_order, an_order, way_of}
use Rattle.order.specs.declared.LogOrder.{LogOrder}
use Rattle.order.specs.declared.LogOrder.TheVariants.{Found, NoneFires}

-- of two logs 4 and 15, then 5: "first log, then second"
unfoldable pub logs_fault : ℕ → List ℕ → List ℕ → Fault
logs_fault T first second = or_else (long_fault (length first) (length second)) (or_else (word_fault T first) (word_fault T second))

-- 1, 2, 18, 3, 17, then those of the logs; `fits` tells whether the lengths of room and work space are right
unfoldable pub order_fault : Net → List ℕ → List ℕ → List ℕ → Bool → Fault
order_fault net initial first second fits = or_else (marked_fault net initial fits) (logs_fault net.transitions first second)

-- "2 for room or work space of another length": a step for each letter, and the whole work space
abbrev pub rooms_fit : List ℕ → List ℕ → List ℕ → List ℕ → Bool
rooms_fit first second room work = eqb (length room) (length first + length second) && eqb (length work) work_length

-- an answer, and what is left in the room and in the work space
pub record Answered : Type 0 where
  pub answer : Answer LogOrder
  pub left : List ℕ
  pub work : List ℕ

-- "any answer but a refusal leaves them zero, and "none" leaves the room for the order as found"
abbrev pub found : Way → List ℕ → Answered
found no_order room = record { answer = Ok NoneFires; left = room; work = replicate work_length 0 }
found (an_order order) room = record { answer = Ok Found; left = order; work = replicate work_length 0 }

-- "A refusal leaves lent memory as found."
abbrev pub answered : Fault → Way → List ℕ → List ℕ → Answered
answered (Ok _) way room work = found way room
answered (Err r) way room work = record { answer = Err r; left = room; work = work }

abbrev pub order_of : Net → List ℕ → List ℕ → List ℕ → List ℕ → List ℕ → Answered
order_of net initial first second room work =
    answered (order_fault net initial first second (rooms_fit first second room work)) (way_of (logs_of net first second) initial) room work

-- the numbers for each case: 81 00 (found), 81 01 (none); 82, a refusal's number and position
abbrev pub numbers : Answer LogOrder → List ℕ
numbers (Ok Found) = 0x81 ∷ 0 ∷ []
numbers (Ok NoneFires) = 0x81 ∷ 1 ∷ []
numbers (Err r) = 0x82 ∷ r.number ∷ r.at ∷ []

-- what is promised of the answer r, of the room and of the work space at the end
pub record Ordered (net : Net) (initial first second room work : List ℕ) (r : Answer LogOrder) (room' work' : List ℕ) : Type 0 where
  pub answer : numbers r ≡ numbers (order_of net initial first second room work).answer
  pub left : room' ≡ (order_of net initial first second room work).left
  pub cleared : work' ≡ (order_of net initial first second room work).work

-- all that 01 and 02 ask of what is lent: nothing is refused exactly where this holds
pub record Allowed (net : Net) (initial first second room work : List ℕ) : Type 0 where
  pub sized : Sized net
  pub light : Light net
  pub marked : length initial ≡ net.places
  pub roomy : length room ≡ length first + length second
  pub bytes : length work ≡ work_length
  pub fine : Fine net.caps initial
  pub wired : Wired net
  pub short_first : length first ≤ log_limit
  pub short_second : length second ≤ log_limit
  pub letters_first : Letters net.transitions first
  pub letters_second : Letters net.transitions second

-- its refusals in order, each exactly when its demand is the first that does not hold: n and at are what is given
abbrev pub Refusal : Net → List ℕ → List ℕ → List ℕ → List ℕ → List ℕ → ℕ → ℕ → Type 0
Refusal net initial first second room work n at =
    MarkedFirst net initial ((length room ≡ length first + length second) × (length work ≡ work_length)) n at
    (LongFirst first second n at
    (First (Letters net.transitions first) (GivenAt 5 (λ k. get_or first k 0 < net.transitions) (length first) n at)
    (First (Letters net.transitions second) (GivenAt 5 (λ k. get_or second k 0 < net.transitions) (length second) n at) ⊥)))
