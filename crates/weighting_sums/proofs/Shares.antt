-- Laws of the two sums along a line: what each turn of the loop adds, and that they tell whether the signed sum is 0. Assumes nothing.
use Prim.Native.Nat.{ℕ, ◌+◌, ◌*◌, ◌≤◌}
use mathlib.Core.Path.{◌≡◌, sym, ap, ap₂, ◌∙◌}
use mathlib.Core.List.{List}
use native.Mathlib.Omega.{arith}
use lib.ListN.{length, get_or}
use lib.IntN.{ℤ, pos, sub_ℕ, ◌-ℤ◌, ◌*ℤ◌}
use Rattle.ground.specs.Parts.{up}
use Rattle.ground.proofs.Parts.{minus_is}
use Rattle.net.specs.Net.{Net}
use Rattle.weighting_sums.specs.Weighting.{entry}
use Rattle.weighting_sums.specs.Walk.{total, product_limit, share, share_limit, cell, line_sum, held}
use Rattle.weighting_sums.proofs.Sum.{mul-sub, sum_same, two_sums, total_none, total_more}

-- the two sums of a line's first k entries
pub record Summed (net : Net) (y : List ℤ) (start step k gained lost : ℕ) : Type 0 where
  pub gained_is : gained ≡ total k (λ j. share (entry y j) (cell net.pre start step j) (cell net.post start step j))
  pub lost_is : lost ≡ total k (λ j. share (entry y j) (cell net.post start step j) (cell net.pre start step j))
  pub gained_small : gained ≤ share_limit * k
  pub lost_small : lost ≤ share_limit * k

module _ (net : Net) (y : List ℤ) (start step : ℕ) where
  pub sums_start : Summed net y start step 0 0 0
  sums_start =
      record {
        gained_is = total_none (λ j. share (entry y j) (cell net.pre start step j) (cell net.post start step j));
        lost_is = total_none (λ j. share (entry y j) (cell net.post start step j) (cell net.pre start step j));
        gained_small = omega arith;
        lost_small = omega arith;
      }

  module _ (k gained lost : ℕ) (s : Summed net y start step k gained lost) where
    pub sums_next : (a b : ℕ) → a ≡ share (entry y k) (cell net.pre start step k) (cell net.post start step k) → b ≡ share (entry y k) (cell net.post start step k) (cell net.pre start step k) → a ≤ share_limit → b ≤ share_limit → Summed net y start step (k + 1) (gained + a) (lost + b)
    sums_next a b p q h l =
        record {
          gained_is = ap₂ ◌+◌ s.gained_is p ∙ total_more k (λ j. share (entry y j) (cell net.pre start step j) (cell net.post start step j));
          lost_is = ap₂ ◌+◌ s.lost_is q ∙ total_more k (λ j. share (entry y j) (cell net.post start step j) (cell net.pre start step j));
          gained_small = omega (arith, s.gained_small);
          lost_small = omega (arith, s.lost_small);
        }

  -- the signed sum is the one less the other
  pub line-is : sub_ℕ (total (length y) (λ j. share (entry y j) (cell net.pre start step j) (cell net.post start step j))) (total (length y) (λ j. share (entry y j) (cell net.post start step j) (cell net.pre start step j))) ≡ line_sum net y start step
  unfolding line_sum
  line-is =
      sym
      (sum_same (length y) (λ k. entry y k *ℤ (pos (cell net.post start step k) -ℤ pos (cell net.pre start step k))) (λ j. sub_ℕ (share (entry y j) (cell net.pre start step j) (cell net.post start step j)) (share (entry y j) (cell net.post start step j) (cell net.pre start step j)))
      (λ k h. ap (λ (z : ℤ). entry y k *ℤ z) (minus_is (cell net.post start step k) (cell net.pre start step k)) ∙ mul-sub (entry y k) (cell net.post start step k) (cell net.pre start step k))
      ∙ two_sums (length y) (λ j. share (entry y j) (cell net.pre start step j) (cell net.post start step j)) (λ j. share (entry y j) (cell net.post start step j) (cell net.pre start step j)))

  pub sums_end : (k gained lost : ℕ) → Summed net y start step k gained lost → k ≤ length y → length y ≤ k → pos gained -ℤ pos lost ≡ line_sum net y start step
  sums_end k gained lost s h l = let e : k ≡ length y = omega arith in minus_is gained lost ∙ rw (s.gained_is, s.lost_is, e) line-is

pub ruleset line_sums = (sums_start, sums_next, sums_end)

-- the sum of y x marking over the first p places, no entry being negative
pub record Weighed (y : List ℤ) (m : List ℕ) (p sum : ℕ) : Type 0 where
  pub is : sum ≡ total p (held y m)
  pub small : sum ≤ product_limit * p

module _ (y : List ℤ) (m : List ℕ) where
  pub weigh_start : Weighed y m 0 0
  weigh_start = record { is = total_none (held y m); small = omega arith }

  module _ (p sum : ℕ) (w : Weighed y m p sum) where
    pub weigh_next : (part r : ℕ) → part ≡ up (entry y p) → r ≡ part * get_or m p 0 → r ≤ product_limit → Weighed y m (p + 1) (sum + r)
    weigh_next part r e q h =
        record {
          is = ap₂ ◌+◌ w.is (q ∙ ap (λ (u : ℕ). u * get_or m p 0) e) ∙ total_more p (held y m);
          small = omega (arith, w.small);
        }

pub ruleset weighs = (weigh_start, weigh_next)
