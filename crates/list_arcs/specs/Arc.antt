-- Only for the code's walk, tied to `passes` and `fired_at` of net by the promises of `may_fire_listed` and `fire_listed`: how many places without an arc a pass over a transition's places, from the last one down, may leave out.
use Rattle.std.specs.Prelude.{ℕ, ◌+◌, ◌-◌, ◌*◌, ◌%◌, ◌≤◌, ◌<◌, ◌≡◌, Bool, ◌||◌, List, length, get_or, ltb}
use Rattle.ground.specs.Limits.{count_limit}
use Rattle.ground.specs.Lists.{first}

-- as many entries as Pre may have
abbrev pub arc_limit : ℕ
arc_limit = count_limit * count_limit

-- a transition takes from a place, or puts there
abbrev pub arc_at : ℕ → ℕ → Bool
arc_at takes puts = ltb 0 takes || ltb 0 puts

-- how many entries, from entry k down, have no arc; the one of the transition's place 0 is not counted
abbrev pub skip_of : ℕ → List ℕ → List ℕ → ℕ → ℕ
skip_of P pre post k = first (λ n. arc_at (get_or pre (k - n) 0) (get_or post (k - n) 0)) (k % P)

-- the table of these, for each entry of Pre
pub record Skips (P : ℕ) (pre post skips : List ℕ) : Type 0 where
  pub long : length pre ≤ length skips
  pub at : (k : ℕ) → k < length pre → get_or skips k 0 ≡ skip_of P pre post k

-- a pass goes on from place p to q below it: transition t has no arc with the places between
pub record Next (P : ℕ) (pre post : List ℕ) (t p q : ℕ) : Type 0 where
  pub less : q < p
  pub bare : (j : ℕ) → q < j → j < p → (get_or pre (t * P + j) 0 ≡ 0) × (get_or post (t * P + j) 0 ≡ 0)

-- no place of a marking holds more than its capacity
pub record Within (caps m : List ℕ) : Type 0 where
  pub at : (p : ℕ) → p < length m → get_or m p 0 ≤ get_or caps p 0
