-- Laws of need, climb and change of a word at one place, for any rise: as sums of numbers that are not signed, in two parts, and bounded. Assumes nothing.
use Prim.Native.Nat.{ℕ, zero, suc, ◌+◌, ◌-◌, ◌*◌, ◌≤◌, ◌<◌}
use mathlib.Core.Path.{◌≡◌, refl, sym, ap, ap₂, ◌∙◌}
use mathlib.Core.List.{List, [], ◌∷◌, ◌++◌}
use native.Mathlib.Nat.{le_antisymm, le_of_suc-le-suc}
use native.Mathlib.Omega.{arith}
use lib.ListN.{length, take, get_or}
use lib.IntN.{ℤ, pos, sub_ℕ, ◌+ℤ◌, ◌-ℤ◌}
use Rattle.ground.specs.Lists.{most}
use Rattle.ground.specs.Parts.{up, dn}
use Rattle.ground.proofs.Most.{most_at, most_least, most_same}
use Rattle.ground.proofs.Parts.{up_sub, dn_sub, minus_is, sub_sum, up_sum, pos_minus}
use Rattle.summary_place.specs.Place.{Move, change, need, climb, prefix_climb, pocket_climb}
use Rattle.summary_place.specs.Slots.{slot_of, joined}
use Rattle.summary_place.specs.Walk.{step, Well}
use Rattle.summary_place.proofs.Steps.{step_is, step_diff}
use Rattle.summary_place.proofs.Peaks.{total, total_append, total_more, height_at, peak, peak_is, peak_append, peak_enough, peak_small}

-- a letter puts no more than it takes and rises
pub record Rising (at : ℕ → Move) : Type 0 where
  pub kept : (t : ℕ) → (at t).puts ≤ (at t).takes + (at t).rise

-- a number less or plus a signed one, or 0 where that is negative
pub minus_up : (n : ℕ) (z : ℤ) → up (pos n -ℤ z) ≡ (n + dn z) - up z
minus_up n z = ap up (pos_minus n z) ∙ up_sub (n + dn z) (up z)

pub plus_up : (z : ℤ) (n : ℕ) → up (z +ℤ pos n) ≡ (n + up z) - dn z
plus_up z n = up_sum z (pos n) ∙ omega arith

module _ (at : ℕ → Move) where
  abbrev pub takes : ℕ → ℕ
  takes t = (at t).takes

  abbrev pub puts : ℕ → ℕ
  puts t = (at t).puts

  abbrev pub rise : ℕ → ℕ
  rise t = (at t).rise

  pub change_is : (w : List ℕ) → change at w ≡ sub_ℕ (total puts w) (total takes w)
  unfolding change
  change_is [] = refl
  change_is (t ∷ w) = ap₂ ◌+ℤ◌ (minus_is (puts t) (takes t)) (change_is w) ∙ sub_sum (puts t) (takes t) (total puts w) (total takes w)

  up_change : (w : List ℕ) → up (change at w) ≡ total puts w - total takes w
  up_change w = ap up (change_is w) ∙ up_sub (total puts w) (total takes w)

  dn_change : (w : List ℕ) → dn (change at w) ≡ total takes w - total puts w
  dn_change w = ap dn (change_is w) ∙ dn_sub (total puts w) (total takes w)

  -- by the letters' numbers
  pub need_most : (w : List ℕ) → need at w ≡ most (length w) (height_at takes takes puts w)
  unfolding need
  need_most w =
      most_same (length w) _ _
      (λ i. minus_up (takes (get_or w i 0)) (change at (take i w)) ∙ omega (arith, up_change (take i w), dn_change (take i w)))

  pub climb_most : (w : List ℕ) → climb at w ≡ most (length w) (height_at rise puts takes w)
  unfolding climb
  climb_most w =
      most_same (length w) _ _
      (λ i. plus_up (change at (take i w)) (rise (get_or w i 0)) ∙ omega (arith, up_change (take i w), dn_change (take i w)))

  module _ (rising : Rising at) where
    -- by recursion
    pub need_peak : (w : List ℕ) → need at w ≡ peak takes takes puts w
    need_peak w = need_most w ∙ peak_is takes takes puts (λ t. omega arith) w

    pub climb_peak : (w : List ℕ) → climb at w ≡ peak rise puts takes w
    climb_peak w = climb_most w ∙ peak_is rise puts takes (λ t. omega (arith, rising.kept t)) w

    -- the slot of a word in two parts is the join of theirs
    pub slot_append : (u w : List ℕ) → slot_of at (u ++ w) ≡ joined (slot_of at u) (slot_of at w)
    unfolding slot_of joined
    slot_append u w =
        let g = total puts u in
        let l = total takes u in
        let c = change at u in
        λ i. record {
          need = (need_peak (u ++ w) ∙ peak_append takes takes puts u w
              ∙ step_diff _ _ l g (dn c) (up c) (omega (arith, up_change u, dn_change u))
              ∙ sym (ap₂ (λ (x y : ℕ). step x y (dn c) (up c)) (need_peak u) (need_peak w))
              ∙ sym (step_is (need at u) (need at w) (dn c) (up c) _ (minus_up (need at w) c))) i;
          climb = (climb_peak (u ++ w) ∙ peak_append rise puts takes u w
              ∙ step_diff _ _ g l (up c) (dn c) (omega (arith, up_change u, dn_change u))
              ∙ sym (ap₂ (λ (x y : ℕ). step x y (up c) (dn c)) (climb_peak u) (climb_peak w))
              ∙ sym (step_is (climb at u) (climb at w) (up c) (dn c) _ (plus_up c (climb at w)))) i;
          change = (change_is (u ++ w) ∙ ap₂ sub_ℕ (total_append puts u w) (total_append takes u w)
              ∙ sym (sub_sum g l (total puts w) (total takes w))
              ∙ sym (ap₂ ◌+ℤ◌ (change_is u) (change_is w))) i;
        }

    -- the slot of a word is well formed
    pub slot_well : (b : ℕ) → ((t : ℕ) → takes t ≤ b) → ((t : ℕ) → puts t ≤ b) → ((t : ℕ) → rise t ≤ b) → (w : List ℕ) → Well (b * length w) (slot_of at w)
    unfolding slot_of
    slot_well b p q r w =
        let n = need_peak w in
        let k = climb_peak w in
        let u = up_change w in
        let d = dn_change w in
        record {
          need = omega (arith, peak_small takes takes puts b p p w);
          climb = omega (arith, peak_small rise puts takes b r q w);
          down = omega (arith, peak_enough takes takes puts w);
          top = omega (arith, peak_enough rise puts takes w);
        }

  -- where the rise is what is put less what is taken, climb is "the largest change over all prefixes, the empty one (0) included"
  module _ (plain : (t : ℕ) → rise t ≡ puts t - takes t) where
    pub climb_prefix : (w : List ℕ) → climb at w ≡ prefix_climb at w
    unfolding prefix_climb
    climb_prefix w =
        climb_most w
        ∙ le_antisymm (most_least n h m up_to) (most_least (suc n) f (most n h) back)
      where
        n : ℕ
        n = length w

        h : ℕ → ℕ
        h = height_at rise puts takes w

        f : ℕ → ℕ
        f i = up (change at (take i w))

        m : ℕ
        m = most (suc n) f

        up_to : (i : ℕ) → i < n → h i ≤ m
        up_to i b =
            let before = most_at (suc n) f i (omega arith) in
            let after = most_at (suc n) f (suc i) (omega arith) in
            omega (arith, plain (get_or w i 0), up_change (take i w), up_change (take (suc i) w), total_more puts w i b, total_more takes w i b)

        back : (i : ℕ) → i < suc n → f i ≤ most n h
        back zero b = omega (arith, up_change (take 0 w))
        back (suc i) b =
            let c : i < n = le_of_suc-le-suc b in
            omega (arith, most_at n h i c, plain (get_or w i 0), up_change (take (suc i) w), total_more puts w i c, total_more takes w i c)

  -- where the rise is all that is put, climb is "the largest of 0 and, for each letter, the change before it plus its Post"
  module _ (pocket : (t : ℕ) → rise t ≡ puts t) where
    pub climb_puts : (w : List ℕ) → climb at w ≡ pocket_climb at w
    unfolding climb pocket_climb
    climb_puts w = most_same (length w) _ _ (λ i. ap (λ (r : ℕ). up (change at (take i w) +ℤ pos r)) (pocket (get_or w i 0)))
