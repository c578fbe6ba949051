-- How large the sums of a weighting become, and that 64 bits hold them: laws over the limit of the numbers that are weighted, then for a net's weights and
-- a marking's tokens (document 02, E6). The code needs none of them: in 64 bits a sum of products of 16 bits fits whatever the limit. Assumes nothing.
use Prim.Native.Nat.{ℕ, zero, suc, ◌+◌, ◌*◌, ◌≤◌, zero-le}
use mathlib.Core.List.{List}
use mathlib.Core.Path.{◌≡◌, sym, ap, ◌∙◌}
use native.Mathlib.Nat.{le_trans, mul-le-mul, mul-le-mul_right}
use native.Mathlib.Omega.{arith}
use lib.ListN.{length, get_or}
use lib.IntN.{ℤ, pos, negsuc}
use mir.Syntax.{w64}
use mir.Val.{Fits}
use Rattle.ground.specs.Limits.{count_limit, weight_limit, token_limit, entry_limit}
use Rattle.ground.specs.Parts.{up, dn}
use Rattle.ground.proofs.Parts.{up_sub, dn_sub}
use Rattle.ground.proofs.Room.{sum_room, bound_room}
use Rattle.net.specs.Net.{Net, Light, Sized}
use Rattle.net.specs.Letter.{Small}
use Rattle.weighting_sums.specs.Weighting.{entry, place_sum, transition_sum}
use Rattle.weighting_sums.specs.Walk.{total, share, cell, line_sum, held}
use Rattle.weighting_sums.proofs.Shares.{Summed, Weighed, line-is}
use Rattle.weighting_sums.proofs.Nets.{row_is, column-is}

-- no entry is larger than 01 allows, without its sign: so is what is lent in 16 bits with one
pub record InRange (y : List ℤ) : Type 0 where
  pub above : (k : ℕ) → up (entry y k) ≤ entry_limit
  pub under : (k : ℕ) → dn (entry y k) ≤ entry_limit

-- no sum of entries times numbers up to a limit, over all places or all transitions, is larger than this
abbrev pub largest_sum : ℕ → ℕ
largest_sum limit = count_limit * (entry_limit * limit)

-- n is no larger, and 64 bits hold it
pub record SumFits (limit n : ℕ) : Type 0 where
  pub most : n ≤ largest_sum limit
  pub fits : Fits w64 n

-- n numbers that are each at most b
total_most : (n b : ℕ) (f : ℕ → ℕ) → ((k : ℕ) → f k ≤ b) → total n f ≤ n * b
unfolding total
total_most zero b f h = zero-le
total_most (suc n) b f h = omega (arith, total_most n b f h, h n)

-- an entry has one sign, so that its share is one product
share_most : (limit : ℕ) (x : ℤ) (takes puts : ℕ) → up x ≤ entry_limit → dn x ≤ entry_limit → takes ≤ limit → puts ≤ limit → share x takes puts ≤ entry_limit * limit
share_most limit (pos n) takes puts h l t p = omega (arith, mul-le-mul h p)
share_most limit (negsuc n) takes puts h l t p = omega (arith, mul-le-mul l t)

-- ---- along a line of two tables
module _ (limit : ℕ) (pre post : List ℕ) (t : (k : ℕ) → get_or pre k 0 ≤ limit) (p : (k : ℕ) → get_or post k 0 ≤ limit) (y : List ℤ) (range : InRange y) (start step : ℕ) where
  pub line_most : (n : ℕ) → n ≤ count_limit → total n (λ j. share (entry y j) (cell pre start step j) (cell post start step j)) ≤ largest_sum limit
  line_most n h =
      le_trans
      (total_most n (entry_limit * limit) (λ j. share (entry y j) (cell pre start step j) (cell post start step j))
      (λ k. share_most limit (entry y k) (cell pre start step k) (cell post start step k) (range.above k) (range.under k) (t (start + k * step)) (p (start + k * step))))
      (mul-le-mul_right (entry_limit * limit) h)

sum_small : (n : ℕ) → n ≤ largest_sum weight_limit → SumFits weight_limit n
sum_small n h = record { most = h; fits = record { fits = omega (arith, sum_room) } }

-- every sum of weights that the code forms: what the first k entries of a line have gained and lost
module _ (net : Net) (light : Light net) (y : List ℤ) (range : InRange y) (start step : ℕ) where
  gained : ℕ → ℕ
  gained n = total n (λ j. share (entry y j) (cell net.pre start step j) (cell net.post start step j))

  lost : ℕ → ℕ
  lost n = total n (λ j. share (entry y j) (cell net.post start step j) (cell net.pre start step j))

  gained_most : (n : ℕ) → n ≤ count_limit → gained n ≤ largest_sum weight_limit
  unfolding gained
  gained_most n h = line_most weight_limit net.pre net.post light.pre light.post y range start step n h

  lost_most : (n : ℕ) → n ≤ count_limit → lost n ≤ largest_sum weight_limit
  unfolding lost
  lost_most n h = line_most weight_limit net.post net.pre light.post light.pre y range start step n h

  pub sum_fits : (k g l : ℕ) → k ≤ count_limit → Summed net y start step k g l → SumFits weight_limit g × SumFits weight_limit l
  unfolding gained lost
  sum_fits k g l h s = (sum_small g (omega (arith, s.gained_is, gained_most k h)), sum_small l (omega (arith, s.lost_is, lost_most k h)))

  -- and their difference, either way
  line_fits : length y ≤ count_limit → SumFits weight_limit (up (line_sum net y start step)) × SumFits weight_limit (dn (line_sum net y start step))
  unfolding gained lost
  line_fits h =
      let e = sym (line-is net y start step) in (
        sum_small _ (omega (arith, ap up e ∙ up_sub (gained (length y)) (lost (length y)), gained_most (length y) h)),
        sum_small _ (omega (arith, ap dn e ∙ dn_sub (gained (length y)) (lost (length y)), lost_most (length y) h)),
      )

-- so the published sums, over places and over transitions, are no larger
pub place_sum_fits : (net : Net) → Sized net → Light net → (y : List ℤ) → InRange y → length y ≡ net.places → (t : ℕ) → SumFits weight_limit (up (place_sum net y t)) × SumFits weight_limit (dn (place_sum net y t))
place_sum_fits net sized light y range long t =
    rw (← row_is net y long t) (line_fits net light y range (t * net.places) 1 (rw long sized.few_places))

pub transition_sum_fits : (net : Net) → Sized net → Light net → (x : List ℤ) → InRange x → length x ≡ net.transitions → (p : ℕ) → SumFits weight_limit (up (transition_sum net x p)) × SumFits weight_limit (dn (transition_sum net x p))
transition_sum_fits net sized light x range long p =
    rw (← column-is net x long p) (line_fits net light x range (p * 1) net.places (rw long sized.few_transitions))

-- ---- of a given marking
pub bound_small : (n : ℕ) → n ≤ largest_sum token_limit → SumFits token_limit n
bound_small n h = record { most = h; fits = record { fits = omega (arith, bound_room) } }

module _ (y : List ℤ) (m : List ℕ) (range : InRange y) (small : Small token_limit m) where
  pub held_most : (n : ℕ) → n ≤ count_limit → total n (held y m) ≤ largest_sum token_limit
  held_most n h =
      le_trans (total_most n (entry_limit * token_limit) (held y m) (λ k. mul-le-mul (range.above k) (small.at k))) (mul-le-mul_right (entry_limit * token_limit) h)

  -- every sum of weighting times marking that the code forms
  pub weighed_fits : (p s : ℕ) → p ≤ count_limit → Weighed y m p s → SumFits token_limit s
  weighed_fits p s h w = bound_small s (rw w.is (held_most p h))
