-- The measures of the two functions that call one another: twice the letters left, and 1 for `look`. `look` calls `take` with the same letters read, and `take` calls `look` with one letter more read.
use Rattle.std.proofs.Common.{ℕ, ◌+◌, ◌-◌, List, length}
use Rattle.order_find.proofs.+look_take.Given as goal

-- the letters left
abbrev pub left : List ℕ → List ℕ → ℕ → ℕ → ℕ
left first second n k = (length first - n) + (length second - k)

abbrev pub decreases-look : goal.decreases-look
decreases-look l = left l.logs.now.first.now l.logs.now.second.now l.n l.k + left l.logs.now.first.now l.logs.now.second.now l.n l.k + 1

abbrev pub decreases-take : goal.decreases-take
decreases-take l = left l.logs.now.first.now l.logs.now.second.now l.n l.k + left l.logs.now.first.now l.logs.now.second.now l.n l.k
