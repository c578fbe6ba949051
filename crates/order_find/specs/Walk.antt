-- Only for the code's walk, tied to the order that is given by the contract of `find_order`: where a search stands, what it remembers, and how it ends.
use Rattle.std.specs.List.{slice_get}
use Rattle.std.specs.Prelude.{ℕ, zero, suc, Option, ◌+◌, ◌-◌, ◌*◌, ◌≤◌, ◌<◌, ◌≡◌, Bool, true, false, List, ◌++◌, length, get_or, take, replicate}
use Rattle.ground.specs.Limits.{token_limit, tokens_after}
use Rattle.net.specs.Net.{Net, Sized, Light, tokens}
use Rattle.net.specs.Letter.{Small, row, fired}
use Rattle.refusals.specs.Given.{Letters}
use Rattle.orders.specs.Orders.{Recorded}
use Rattle.orders.specs.Sums.{taken, put}
use Rattle.orders.specs.Lengths.{log_limit, read_count, work_length}
use Rattle.orders.specs.Search.{Way, no_order, an_order, step, order_from, left_of, way_of}

-- what the first n letters of the one log and k of the other take from place p, and put there
abbrev pub taken_at : Recorded → ℕ → ℕ → ℕ → ℕ
taken_at logs n k p = taken logs.net p (take n logs.first) + taken logs.net p (take k logs.second)

abbrev pub put_at : Recorded → ℕ → ℕ → ℕ → ℕ
put_at logs n k p = put logs.net p (take n logs.first) + put logs.net p (take k logs.second)

-- the marking before transition t, from the one after it
abbrev pub taken_back : Net → ℕ → List ℕ → List ℕ
taken_back net t m = fired (row net.places t net.post) (row net.places t net.pre) m

-- the next unread letter of log `which`, n letters of the first and k of the second having been read, if that log has one left
abbrev pub unread : List ℕ → List ℕ → ℕ → ℕ → ℕ → Option ℕ
unread first second zero n k = slice_get first n
unread first second (suc x) n k = slice_get second k

-- m, come to with n and k letters read, and m', with n' and k', come from the same start: at each place they differ by what was taken and put
pub record Alike (logs : Recorded) (n k : ℕ) (m : List ℕ) (n' k' : ℕ) (m' : List ℕ) : Type 0 where
  pub long : length m' ≡ length m
  pub at : (p : ℕ) → p < length m → tokens m p + taken_at logs n k p + put_at logs n' k' p ≡ tokens m' p + taken_at logs n' k' p + put_at logs n k p

-- the byte for n letters of the one log and k of the other read
abbrev pub cell_of : ℕ → ℕ → ℕ
cell_of n k = n * read_count + k

-- a byte that is not 0 is a dead end: from the marking there, come from where m came from, no order of the rest fires
pub record Remembers (logs : Recorded) (n k : ℕ) (m work : List ℕ) : Type 0 where
  pub dead :
      (n' k' : ℕ) (m' : List ℕ) → n' ≤ length logs.first → k' ≤ length logs.second → (get_or work (cell_of n' k') 0 ≡ 0 → ⊥)
      → Alike logs n k m n' k' m' → order_from logs (left_of logs n' k') n' k' m' ≡ no_order

-- what is lent can be searched
pub record Ready (logs : Recorded) : Type 0 where
  pub sized : Sized logs.net
  pub light : Light logs.net
  pub few_first : length logs.first ≤ log_limit
  pub few_second : length logs.second ≤ log_limit
  pub letters_first : Letters logs.net.transitions logs.first
  pub letters_second : Letters logs.net.transitions logs.second

-- the search stands at m with n and k letters read; the path has room for a whole order
pub record Stands (logs : Recorded) (n k : ℕ) (m path work : List ℕ) : Type 0 where
  pub ready : Ready logs
  pub read_first : n ≤ length logs.first
  pub read_second : k ≤ length logs.second
  pub marked : length m ≡ logs.net.places
  pub small : Small (tokens_after (n + k)) m
  pub roomy : length logs.first + length logs.second ≤ length path
  pub bytes : length work ≡ work_length
  pub remembers : Remembers logs n k m work

-- an order of the rest was found, and stands in the path behind the steps that were there
pub record Whole (at : ℕ) (path : List ℕ) (found : Way) (path' : List ℕ) : Type 0 where
  pub order : List ℕ
  pub is : found ≡ an_order order
  pub stands : take (at + length order) path' ≡ take at path ++ order

-- there is none, and all is as it was but for what is now remembered and the path's rest
pub record Back (logs : Recorded) (n k : ℕ) (m path : List ℕ) (found : Way) (m' path' work' : List ℕ) : Type 0 where
  pub is : found ≡ no_order
  pub marking : m' ≡ m
  pub stands : take (n + k) path' ≡ take (n + k) path
  pub remembers : Remembers logs n k m work'

-- how a search that stood there ends: r tells whether `found` is an order
pub record Ends (logs : Recorded) (n k : ℕ) (m path : List ℕ) (found : Way) (r : Bool) (m' path' work' : List ℕ) : Type 0 where
  pub whole : r ≡ true → Whole (n + k) path found path'
  pub back : r ≡ false → Back logs n k m path found m' path' work'

-- what is to be found from there, and what is to be found if the next step takes from log `which`
abbrev pub way_from : Recorded → ℕ → ℕ → List ℕ → Way
way_from logs n k m = order_from logs (left_of logs n k) n k m

abbrev pub way_by : Recorded → ℕ → ℕ → ℕ → List ℕ → Way
way_by logs which n k m =
    step logs which n k m (λ m'. order_from logs (left_of logs (n + (1 - which)) (k + which)) (n + (1 - which)) (k + which) m')

-- whether there is an order, and the room at the end: it, or the room as found
abbrev pub is_order : Way → Bool
is_order no_order = false
is_order (an_order order) = true

abbrev pub order_or : Way → List ℕ → List ℕ
order_or no_order room = room
order_or (an_order order) room = order

-- what a whole search is lent
pub record Begins (logs : Recorded) (initial room work : List ℕ) : Type 0 where
  pub ready : Ready logs
  pub marked : length initial ≡ logs.net.places
  pub small : Small token_limit initial
  pub roomy : length room ≡ length logs.first + length logs.second
  pub bytes : length work ≡ work_length

-- what it promises: "any answer but a refusal leaves them zero, and "none" leaves the room for the order as found"
pub record Sought (logs : Recorded) (initial room : List ℕ) (r : Bool) (room' work' : List ℕ) : Type 0 where
  pub answer : r ≡ is_order (way_of logs initial)
  pub left : room' ≡ order_or (way_of logs initial) room
  pub zero : work' ≡ replicate work_length 0
