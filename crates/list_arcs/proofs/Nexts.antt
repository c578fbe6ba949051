-- Laws of the table of skips: how it is made, and the place that comes next by it. Assumes nothing.
use Prim.Native.Nat.{ℕ, ◌+◌, ◌-◌, ◌*◌, ◌%◌, ◌≤◌, ◌<◌}
use mathlib.Core.Path.{◌≡◌, ◌∙◌}
use mathlib.Core.Bool.{false}
use mathlib.Core.List.{List}
use native.Mathlib.Omega.{arith}
use native.Mathlib.Nat.{mod-lt, mod-le, mod-eq_of_lt, mul-add-mod_self_right}
use lib.ListN.{length, get_or}
use lib.Dec.{ltb}
use borrow.Author.Tests.{ltb-false}
use Rattle.ground.specs.Lists.{first}
use Rattle.ground.proofs.Tests.{or-false}
use Rattle.ground.proofs.Scan.{first_below, first_most}
use Rattle.list_arcs.specs.Arc.{arc_at, skip_of, Skips, Next}

-- what is left of entry k's row below it
pub row_below : (P k : ℕ) → 1 ≤ P → (k % P < P) × (k % P ≤ k)
row_below P k h = (mod-lt k h, mod-le k P)

no_arc : (takes puts : ℕ) → arc_at takes puts ≡ false → (takes ≡ 0) × (puts ≡ 0)
no_arc takes puts e =
    let o = or-false (ltb 0 takes) (ltb 0 puts) e in
    (omega (arith, ltb-false 0 takes o.0), omega (arith, ltb-false 0 puts o.1))

module _ (P : ℕ) (pre post skips : List ℕ) (s : Skips P pre post skips) (t p : ℕ) (ends : t * P + P ≤ length pre) (h : 0 < p) (l : p ≤ P) where
  -- the entry of the place below p
  abbrev here : ℕ
  here = t * P + (p - 1)

  here_row : here % P ≡ p - 1
  here_row = mul-add-mod_self_right t P (p - 1) ∙ mod-eq_of_lt (omega arith)

  skip_here : get_or skips here 0 ≡ skip_of P pre post here
  skip_here = s.at here (omega arith)

  pub skip_most : get_or skips here 0 ≤ p - 1
  skip_most = omega (arith, skip_here, here_row, first_most (λ n. arc_at (get_or pre (here - n) 0) (get_or post (here - n) 0)) (here % P))

  pub next_is : (q : ℕ) → q ≡ p - 1 - get_or skips here 0 → Next P pre post t p q
  next_is q e = record { less = omega (arith, skip_most); bare = go }
    where
      go : (j : ℕ) → q < j → j < p → (get_or pre (t * P + j) 0 ≡ 0) × (get_or post (t * P + j) 0 ≡ 0)
      go j a b =
          let n : p - 1 - j < first (λ n. arc_at (get_or pre (here - n) 0) (get_or post (here - n) 0)) (here % P) = omega (arith, skip_here, skip_most) in
          let z : here - (p - 1 - j) ≡ t * P + j = omega arith in
          no_arc (get_or pre (t * P + j) 0) (get_or post (t * P + j) 0)
          (rw z at (first_below (λ n. arc_at (get_or pre (here - n) 0) (get_or post (here - n) 0)) (here % P) (p - 1 - j) n))
