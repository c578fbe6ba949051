-- To be believed: which order is given, by the letters read so far. proofs/Meaning.antt shows that it is the published one.
use Rattle.std.specs.Prelude.{ℕ, zero, suc, ◌+◌, ◌-◌, Bool, cond, ◌&&◌, List, [], ◌∷◌, length, get_or, ltb}
use Rattle.net.specs.Letter.{arcs_at, passes, fired_at}
use Rattle.orders.specs.Orders.{Recorded}

-- what is found: no order, or this one
pub data Way : Type 0 where
  no_order : Way
  an_order : List ℕ → Way

-- the next unread letter of log `which`, n letters of the first and k of the second having been read; T, which names no transition,
-- where that log has none left
abbrev pub letter_of : ℕ → List ℕ → List ℕ → ℕ → ℕ → ℕ → ℕ
letter_of T first second zero n k = get_or first n T
letter_of T first second (suc x) n k = get_or second k T

abbrev pub letter_at : Recorded → ℕ → ℕ → ℕ → ℕ
letter_at logs which n k = letter_of logs.net.transitions logs.first logs.second which n k

-- there is such a letter, it may be taken, and it is enabled at m
abbrev pub open_to : Recorded → ℕ → ℕ → ℕ → List ℕ → Bool
open_to logs which n k m =
    ltb (letter_at logs which n k) logs.net.transitions
    && (logs.may which n k && passes (arcs_at logs.net (letter_at logs which n k)) m)

-- a step before an order of the rest
abbrev pub onto : ℕ → Way → Way
onto which no_order = no_order
onto which (an_order order) = an_order (which ∷ order)

-- the one way, else the other
abbrev pub else_way : Way → Way → Way
else_way no_order other = other
else_way (an_order order) other = an_order order

-- the step that takes from log `which`, if its letter is enabled and the rest, from the marking after it, can be ordered
abbrev pub step : Recorded → ℕ → ℕ → ℕ → List ℕ → (List ℕ → Way) → Way
step logs which n k m rest = cond (open_to logs which n k m) (onto which (rest (fired_at logs.net (letter_at logs which n k) m))) no_order

-- From n letters of the first log and k of the second read, with so many left in both: "the order that takes from the first log if that letter
-- is enabled and the rest can be ordered, else from the second, else none"
unfoldable pub order_from : Recorded → ℕ → ℕ → ℕ → List ℕ → Way
order_from logs zero n k m = an_order []
order_from logs (suc left) n k m =
    else_way (step logs 0 n k m (λ m'. order_from logs left (n + 1) k m')) (step logs 1 n k m (λ m'. order_from logs left n (k + 1) m'))

-- the letters left
abbrev pub left_of : Recorded → ℕ → ℕ → ℕ
left_of logs n k = (length logs.first - n) + (length logs.second - k)

-- from the start
abbrev pub way_of : Recorded → List ℕ → Way
way_of logs m = order_from logs (left_of logs 0 0) 0 0 m
