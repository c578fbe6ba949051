-- Only for the code's walk, tied to what is published by proofs/Judged.antt: one letter judged and fired by tests on one place's numbers, then the lowest place that fails one.
use Rattle.std.specs.Prelude.{ℕ, ◌+◌, ◌-◌, ◌*◌, ◌≤◌, ◌≡◌, Bool, cond, ◌&&◌, ◌||◌, List, length, get_or, take, drop, ltb, eqb, Result, Ok, Err}
use Rattle.ground.specs.Limits.{count_limit, no_capacity, replay_limit}
use Rattle.ground.specs.Lists.{first, tally, map_at}
use Rattle.net.specs.Net.{Net, leaves_first}
use Rattle.net.specs.declared.Cause.{Cause}
use Rattle.net.specs.declared.Cause.TheVariants.{Short, Over}

-- one place is "short of tokens": it has fewer than are taken
abbrev pub short_at : ℕ → ℕ → Bool
short_at takes tokens = ltb tokens takes

-- one place is "over capacity": it has one, and its tokens, without what leaves first and with what is put, are above it
abbrev pub over_at : ℕ → ℕ → ℕ → ℕ → ℕ → Bool
over_at takes puts cap mark tokens = ltb cap no_capacity && ltb (cap + leaves_first mark takes) (tokens + puts)

-- one transition: what it takes and puts at each place, with the capacities and marks
pub record Arcs : Type 0 where
  pub takes : List ℕ
  pub puts : List ℕ
  pub caps : List ℕ
  pub marks : List ℕ

abbrev pub arcs_of : List ℕ → List ℕ → List ℕ → List ℕ → Arcs
arcs_of takes puts caps marks = record { takes = takes; puts = puts; caps = caps; marks = marks }

-- row t of a table with rows of n entries
abbrev pub row : ℕ → ℕ → List ℕ → List ℕ
row n t l = take n (drop (t * n) l)

abbrev pub arcs_at : Net → ℕ → Arcs
arcs_at net t = arcs_of (row net.places t net.pre) (row net.places t net.post) net.caps net.marks

-- place p of a marking, from the rows
abbrev pub short : List ℕ → List ℕ → ℕ → Bool
short takes m p = short_at (get_or takes p 0) (get_or m p 0)

abbrev pub over : Arcs → List ℕ → ℕ → Bool
over arcs m p = over_at (get_or arcs.takes p 0) (get_or arcs.puts p 0) (get_or arcs.caps p 0) (get_or arcs.marks p 0) (get_or m p 0)

-- place p stops the letter
abbrev pub stops : Arcs → List ℕ → ℕ → Bool
stops arcs m p = short arcs.takes m p || over arcs m p

-- the lowest such place, or the number of places
abbrev pub lowest_short : List ℕ → List ℕ → ℕ
lowest_short takes m = first (short takes m) (length m)

abbrev pub lowest_over : Arcs → List ℕ → ℕ
lowest_over arcs m = first (over arcs m) (length m)

-- "If any place is short, the lowest short place is named; else the lowest place over."
abbrev pub cause : Arcs → List ℕ → Cause
cause arcs m = cond (ltb (lowest_short arcs.takes m) (length m)) (Short (lowest_short arcs.takes m)) (Over (lowest_over arcs m))

-- no place stops the letter
abbrev pub passes : Arcs → List ℕ → Bool
passes arcs m = eqb (tally (stops arcs m) (length m)) 0

abbrev pub judge : Arcs → List ℕ → Result Unit Cause
judge arcs m = cond (passes arcs m) (Ok tt) (Err (cause arcs m))

-- the tokens of place p after the letter, from those before, and the marking after it
abbrev pub after : List ℕ → List ℕ → ℕ → ℕ → ℕ
after takes puts p x = x + get_or puts p 0 - get_or takes p 0

abbrev pub fired : List ℕ → List ℕ → List ℕ → List ℕ
fired takes puts m = map_at (after takes puts) m

-- the marking left by a letter that was judged: changed only where it passes
abbrev pub settled : Arcs → List ℕ → List ℕ
settled arcs m = cond (passes arcs m) (fired arcs.takes arcs.puts m) m

-- what becomes of letter t at m, and the marking after it has fired
abbrev pub judge_at : Net → ℕ → List ℕ → Result Unit Cause
judge_at net t m = judge (arcs_at net t) m

abbrev pub fired_at : Net → ℕ → List ℕ → List ℕ
fired_at net t m = fired (arcs_at net t).takes (arcs_at net t).puts m

-- no place holds more than b
pub record Small (b : ℕ) (m : List ℕ) : Type 0 where
  pub at : (p : ℕ) → get_or m p 0 ≤ b

-- no place is short
pub record Enough (takes m : List ℕ) : Type 0 where
  pub at : (p : ℕ) → get_or takes p 0 ≤ get_or m p 0

-- the rows are as long as the marking, which has a place for each and no more tokens than a replay reaches
pub record Rows (arcs : Arcs) (m : List ℕ) : Type 0 where
  pub taken : length arcs.takes ≡ length m
  pub put : length arcs.puts ≡ length m
  pub capped : length arcs.caps ≡ length m
  pub noted : length arcs.marks ≡ length m
  pub few : length m ≤ count_limit
  pub small : Small replay_limit m

-- the letter was judged, and fired if it passes
pub record Played (arcs : Arcs) (m : List ℕ) (r : Result Unit Cause) (m' : List ℕ) : Type 0 where
  pub answer : r ≡ judge arcs m
  pub left : m' ≡ settled arcs m

-- a list copied into room for the largest, as its front
pub record Widened (l room : List ℕ) : Type 0 where
  pub long : length room ≡ count_limit
  pub front : take (length l) room ≡ l
