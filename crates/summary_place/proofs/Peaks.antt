-- The largest of x(t) + l(u) - g(u) over the letters t of a word, with u before each, for any x, l and g: need and climb are both of this kind. Assumes nothing.
use Prim.Native.Nat.{ℕ, zero, suc, ◌+◌, ◌-◌, ◌*◌, ◌≤◌, ◌<◌, zero-le}
use mathlib.Core.Path.{◌≡◌, refl, sym, ap, ◌∙◌}
use mathlib.Core.List.{List, [], ◌∷◌, ◌++◌}
use native.Mathlib.Nat.{le_antisymm, le_of_suc-le-suc, mul-suc}
use native.Mathlib.Numerals.{add-one}
use native.Mathlib.Omega.{arith}
use lib.ListN.{length, take, get_or}
use lib.Seq.{take-suc}
use Rattle.ground.specs.Lists.{most}
use Rattle.ground.proofs.Most.{most_none, most_more, most_at, most_least}
use Rattle.summary_place.specs.Walk.{step}
use Rattle.summary_place.proofs.Steps.{step_x, step_y, step_least, step_is, step_assoc, step_left}

-- the sum of f over the letters
abbrev pub total : (ℕ → ℕ) → List ℕ → ℕ
total f [] = 0
total f (t ∷ w) = f t + total f w

pub total_append : (f : ℕ → ℕ) (u w : List ℕ) → total f (u ++ w) ≡ total f u + total f w
total_append f [] w = omega arith
total_append f (t ∷ u) w = omega (arith, total_append f u w)

pub total_more : (f : ℕ → ℕ) (w : List ℕ) (i : ℕ) → i < length w → total f (take (suc i) w) ≡ total f (take i w) + f (get_or w i 0)
total_more f w i h = ap (total f) (take-suc w i 0 h) ∙ total_append f (take i w) (get_or w i 0 ∷ []) ∙ omega arith

module _ (x l g : ℕ → ℕ) where
  -- at letter i
  abbrev pub height_at : List ℕ → ℕ → ℕ
  height_at w i = (x (get_or w i 0) + total l (take i w)) - total g (take i w)

  -- the largest, by recursion on the word
  unfoldable pub peak : List ℕ → ℕ
  peak [] = 0
  peak (t ∷ w) = step (x t) (peak w) (l t) (g t)

  pub peak_more : (w : List ℕ) (i : ℕ) → step (most i (height_at w)) (x (get_or w i 0)) (total l (take i w)) (total g (take i w)) ≡ most (i + 1) (height_at w)
  peak_more w i = rw (add-one i, most_more i (height_at w)) (sym (step_is (most i (height_at w)) _ _ _ _ refl))

  pub peak_append : (u w : List ℕ) → peak (u ++ w) ≡ step (peak u) (peak w) (total l u) (total g u)
  unfolding peak
  peak_append [] w = sym (step_left (peak w))
  peak_append (t ∷ u) w =
      ap (λ (y : ℕ). step (x t) y (l t) (g t)) (peak_append u w)
      ∙ sym (step_assoc (x t) (peak u) (peak w) (l t) (g t) (total l u) (total g u))

  pub peak_enough : (w : List ℕ) → total l w ≤ peak w + total g w
  unfolding peak
  peak_enough [] = zero-le
  peak_enough (t ∷ w) = omega (arith, peak_enough w, step_y (x t) (peak w) (l t) (g t))

  pub peak_small : (b : ℕ) → ((t : ℕ) → x t ≤ b) → ((t : ℕ) → l t ≤ b) → (w : List ℕ) → peak w ≤ b * length w
  unfolding peak
  peak_small b p q [] = zero-le
  peak_small b p q (t ∷ w) =
      step_least (x t) (peak w) (l t) (g t) _
      (omega (arith, p t, mul-suc b (length w)))
      (omega (arith, q t, peak_small b p q w, mul-suc b (length w)))

  -- over the letters by number
  module _ (kept : (t : ℕ) → l t ≤ x t + g t) where
    pub peak_is : (w : List ℕ) → most (length w) (height_at w) ≡ peak w
    unfolding peak
    peak_is [] = most_none (height_at [])
    peak_is (t ∷ w) = cons (peak_is w)
      where
        f : ℕ → ℕ
        f = height_at (t ∷ w)

        s : ℕ
        s = step (x t) (peak w) (l t) (g t)

        one : (i : ℕ) → i < suc (length w) → most (length w) (height_at w) ≡ peak w → f i ≤ s
        one zero h e = omega (arith, step_x (x t) (peak w) (l t) (g t))
        one (suc i) h e = omega (arith, step_y (x t) (peak w) (l t) (g t), most_at (length w) (height_at w) i (le_of_suc-le-suc h))

        back : (i : ℕ) → i < length w → height_at w i ≤ (most (suc (length w)) f + g t) - l t
        back i h = omega (arith, kept t, most_at (suc (length w)) f 0 (omega arith), most_at (suc (length w)) f (suc i) (omega arith))

        cons : most (length w) (height_at w) ≡ peak w → most (suc (length w)) f ≡ s
        cons e =
            le_antisymm (most_least (suc (length w)) f s (λ i h. one i h e))
            (step_least (x t) (peak w) (l t) (g t) _ (omega (arith, most_at (suc (length w)) f 0 (omega arith)))
            (omega (arith, kept t, most_least (length w) (height_at w) _ back, most_at (suc (length w)) f 0 (omega arith))))
