-- To be believed: an order of two logs, as document 02 says in E3: "The order is a list of 0 and 1, one per step." 0 takes from the first log, 1 from the second.
use Rattle.std.specs.Prelude.{ℕ, zero, suc, ◌+◌, ◌<◌, ◌≡◌, Bool, true, cond, List, [], ◌∷◌, length, get_or, take, eqb}
use Rattle.ground.specs.Lists.{bit}
use Rattle.net.specs.Net.{Net}
use Rattle.net.specs.Firing.{Fires}
use Rattle.orders.specs.declared.Logs.{Logs}

-- how many steps of an order are `which`
unfoldable pub count : ℕ → List ℕ → ℕ
count which [] = 0
count which (x ∷ order) = bit (eqb x which) + count which order

-- the order is one of the two logs': "made of as many 0s and 1s as the logs have letters", and of nothing else
pub record OrderOf (first second order : List ℕ) : Type 0 where
  pub zeros : count 0 order ≡ length first
  pub ones : count 1 order ≡ length second
  pub long : length order ≡ length first + length second

-- the word that an order makes: each step takes the next letter of its log. A step that finds no letter left ends the word, which
-- happens in no order of the two logs.
unfoldable pub woven : List ℕ → List ℕ → List ℕ → List ℕ
woven [] first second = []
woven (zero ∷ order) [] second = []
woven (zero ∷ order) (t ∷ first) second = t ∷ woven order first second
woven (suc x ∷ order) first [] = []
woven (suc x ∷ order) first (t ∷ second) = t ∷ woven order first second

-- the letters of a word that the steps of an order take from log `which`
unfoldable pub picked : ℕ → List ℕ → List ℕ → List ℕ
picked which [] word = []
picked which (x ∷ order) [] = []
picked which (x ∷ order) (t ∷ word) = cond (eqb x which) (t ∷ picked which order word) (picked which order word)

-- "takes from the first log at the earliest place where two differ": up to a step the orders are the same, and there ours takes from
-- the first log and the other from the second
pub record Earlier (ours other : List ℕ) : Type 0 where
  pub step : ℕ
  pub same : take step ours ≡ take step other
  pub first : get_or ours step 1 ≡ 0
  pub second : get_or other step 0 ≡ 1

-- what was recorded: two logs of one line, and what else an order must keep to: `may which n k` tells whether a step may take from
-- log `which` when n letters of the first log and k of the second have been read
pub record Recorded : Type 0 where
  pub net : Net
  pub first : List ℕ
  pub second : List ℕ
  pub may : ℕ → ℕ → ℕ → Bool

-- without clocks a step may take from either log at any time
abbrev pub always : ℕ → ℕ → ℕ → Bool
always which n k = true

abbrev pub logs_of : Net → List ℕ → List ℕ → Recorded
logs_of net first second = record { net = net; first = first; second = second; may = always }

-- what two lent logs record
abbrev pub recorded : Net → Logs → Recorded
recorded net logs = logs_of net logs.first.now logs.second.now

-- each step of the order may be taken where it stands, n letters of the first log and k of the second having been read before all of it
pub record KeptFrom (may : ℕ → ℕ → ℕ → Bool) (n k : ℕ) (order : List ℕ) : Type 0 where
  pub at : (j : ℕ) → j < length order → may (get_or order j 0) (n + count 0 (take j order)) (k + count 1 (take j order)) ≡ true

-- "an order that keeps each log's own order and fires": one of the two logs', each step may be taken, and its word fires from m
pub record Runs (logs : Recorded) (m order : List ℕ) : Type 0 where
  pub of_both : OrderOf logs.first logs.second order
  pub kept : KeptFrom logs.may 0 0 order
  pub reached : List ℕ
  pub fires : Fires logs.net m (woven order logs.first logs.second) reached
