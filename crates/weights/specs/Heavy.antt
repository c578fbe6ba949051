-- To be believed: document 02, E6: "18, a lent weight over 4,095, position its transition".
use Rattle.std.specs.Prelude.{ℕ, ◌≤◌, ◌<◌, Bool, ◌||◌, List, length, get_or, ltb}
use Rattle.ground.specs.Limits.{weight_limit}
use Rattle.ground.specs.Lists.{first, tally}
use Rattle.net.specs.Net.{Net, Pre, Post}

-- no weight of transition t is over the limit
pub record LightAt (net : Net) (t : ℕ) : Type 0 where
  pub pre : (p : ℕ) → p < net.places → Pre net p t ≤ weight_limit
  pub post : (p : ℕ) → p < net.places → Post net p t ≤ weight_limit

-- The same by tests: one of the two weights at place p, of a row of Pre and the row of Post beside it, is over a limit; some place has such a weight.
abbrev pub over_at : ℕ → List ℕ → List ℕ → ℕ → Bool
over_at limit takes puts p = ltb limit (get_or takes p 0) || ltb limit (get_or puts p 0)

unfoldable pub row_over : ℕ → List ℕ → List ℕ → Bool
row_over limit takes puts = ltb 0 (tally (over_at limit takes puts) (length takes))

-- transition t has a weight over the limit, in Pre or in Post; the lowest such one, or the number of all
unfoldable pub heavy : Net → ℕ → Bool
heavy net t = ltb 0 (tally (λ p. ltb weight_limit (Pre net p t) || ltb weight_limit (Post net p t)) net.places)

abbrev pub lowest_heavy : Net → ℕ
lowest_heavy net = first (heavy net) net.transitions
