-- To be believed: "for a step, .. the unread rest of whichever log that step takes from, as it lies in the lent log, from that step's entry on; refused, the part is empty
-- and a call beside tells the number".
use Rattle.std.specs.Prelude.{Ok, Err}
use Rattle.refusals.specs.Given.{Fault}
use Rattle.std.specs.Prelude.{ℕ, zero, suc, ◌+◌, ◌≤◌, ◌<◌, ◌≡◌, Bool, not, ◌&&◌, List, [], ◌∷◌, length, get_or, take, drop, ltb, eqb}
use Rattle.refusals.specs.Given.{refuse, or_else}
use Rattle.refusals.specs.First.{First, Given}
use Rattle.orders.specs.Orders.{count, OrderOf}
use Rattle.orders.specs.Lengths.{log_limit, long_fault, LongFirst}

-- the order "is made of as many 0s and 1s as the logs have letters", n and k, and the step is below its length
abbrev pub fits : ℕ → ℕ → List ℕ → ℕ → Bool
fits n k order step = eqb (count 0 order) n && (eqb (count 1 order) k && (eqb (length order) (n + k) && ltb step (length order)))

-- 4, 15, then "16, .. a list that isn't made of as many 0s and 1s as the logs have letters, or a step not below its length, after 15"
unfoldable pub rest_fault : List ℕ → List ℕ → List ℕ → ℕ → Fault
rest_fault first second order step =
    or_else (long_fault (length first) (length second)) (refuse (not (fits (length first) (length second) order step)) 16 0)

-- the log that a step takes from: 0 the first, 1 the second
abbrev pub which_at : List ℕ → ℕ → ℕ
which_at order step = get_or order step 0

abbrev pub log_of : ℕ → List ℕ → List ℕ → List ℕ
log_of zero first second = first
log_of (suc x) first second = second

-- how many of its letters are read before the step: the step's own letter has this number
abbrev pub read_at : List ℕ → ℕ → ℕ
read_at order step = count (which_at order step) (take step order)

-- the unread rest of that log, "from that step's entry on"
abbrev pub unread : List ℕ → List ℕ → List ℕ → ℕ → List ℕ
unread first second order step = drop (read_at order step) (log_of (which_at order step) first second)

-- "refused, the part is empty"
abbrev pub rest_unless : Fault → List ℕ → List ℕ
rest_unless (Ok _) rest = rest
rest_unless (Err r) rest = []

abbrev pub rest_of : List ℕ → List ℕ → List ℕ → ℕ → List ℕ
rest_of first second order step = rest_unless (rest_fault first second order step) (unread first second order step)

-- the step takes from log `which`, and the part is the rest of that log "from that step's entry on": past as many letters as steps before it take from there
pub record RestFrom (which : ℕ) (log order : List ℕ) (step : ℕ) (part : List ℕ) : Type 0 where
  pub takes : get_or order step 0 ≡ which
  pub on : part ≡ drop (count which (take step order)) log

-- the numbers for what `rest_fault` tells: 81 00 (nothing is refused); 82, the refusal's number and position
abbrev pub numbers : Fault → List ℕ
numbers (Ok _) = 0x81 ∷ 0 ∷ []
numbers (Err r) = 0x82 ∷ r.number ∷ r.at ∷ []

-- what `rest_fault` promises of its answer r
pub record Told (first second order : List ℕ) (step : ℕ) (r : Fault) : Type 0 where
  pub answer : numbers r ≡ numbers (rest_fault first second order step)

-- all that 02 asks of what is lent: nothing is refused exactly where this holds
pub record Allowed (first second order : List ℕ) (step : ℕ) : Type 0 where
  pub short_first : length first ≤ log_limit
  pub short_second : length second ≤ log_limit
  pub of_both : OrderOf first second order
  pub inside : step < length order

-- its refusals in order, each exactly when its demand is the first that does not hold: n and at are what is given
abbrev pub Refusal : List ℕ → List ℕ → List ℕ → ℕ → ℕ → ℕ → Type 0
Refusal first second order step n at =
    LongFirst first second n at (First (OrderOf first second order × (step < length order)) (Given 16 0 n at) ⊥)
