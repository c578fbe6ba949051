-- Laws of an order at one of its steps: it is 0 or 1, its log has a letter left, and that letter is the word's. Assumes nothing.
use Prim.Native.Nat.{ℕ, zero, suc, ◌+◌, ◌≤◌, ◌<◌}
use mathlib.Core.Path.{◌≡◌, refl, ap, ◌∙◌}
use mathlib.Core.List.{List, [], ◌∷◌}
use native.Mathlib.Nat.{le_refl, not-suc-le-zero, le_of_suc-le-suc, zero-add}
use native.Mathlib.Omega.{arith}
use lib.ListN.{length, get_or, take}
use lib.Dec.{eqb, eqb-zero-suc, eqb-suc-zero, eqb-suc-suc}
use borrow.Author.Tests.{eq-eqb}
use Rattle.ground.specs.Lists.{bit}
use Rattle.orders.specs.Orders.{count, OrderOf, woven}
use Rattle.orders.proofs.Counts.{count_more, count_take_le}
use Rattle.order_rest.specs.Rest.{which_at, log_of, read_at}

-- a step is at most one of 0 and 1
one_most : (x : ℕ) → bit (eqb x 0) + bit (eqb x 1) ≤ 1
one_most zero = le_refl 1
one_most (suc zero) = le_refl 1
one_most (suc (suc x)) = rw (eqb-suc-zero (suc x), eqb-suc-suc (suc x) 0, eqb-suc-zero x) (omega arith)

two_most : (order : List ℕ) → count 0 order + count 1 order ≤ length order
unfolding count
two_most [] = le_refl 0
two_most (x ∷ order) = omega (arith, one_most x, two_most order)

-- where 0s and 1s are all, no step is another number
pub no_other : (order : List ℕ) (step x : ℕ) → length order ≤ count 0 order + count 1 order → step < length order → get_or order step 0 ≡ suc (suc x) → ⊥
unfolding count
no_other [] step x e h q = not-suc-le-zero h
no_other (y ∷ order) zero x e h q =
    let a : bit (eqb y 0) ≡ 0 = rw (q, eqb-suc-zero (suc x)) in
    let b : bit (eqb y 1) ≡ 0 = rw (q, eqb-suc-suc (suc x) 0, eqb-suc-zero x) in
    omega (arith, two_most order)
no_other (y ∷ order) (suc step) x e h q = no_other order step x (omega (arith, one_most y, two_most order)) (le_of_suc-le-suc h) q

one_more : (n : ℕ) → suc n ≡ 1 + n
one_more n = omega arith

all_two : {first second order : List ℕ} → OrderOf first second order → length order ≤ count 0 order + count 1 order
all_two o = omega (arith, o.zeros, o.ones, o.long)

-- the log of a step has a letter left there
pub letter_left : {first second order : List ℕ} (step : ℕ) → OrderOf first second order → step < length order → read_at order step < length (log_of (which_at order step) first second)
letter_left {first} {second} {order} step o h = go (get_or order step 0) refl
  where
    more : (w : ℕ) → get_or order step 0 ≡ w → count w (take step order) < count w order
    more w e =
        let a : count w (take (step + 1) order) ≡ count w (take step order) + 1 = count_more w order step h ∙ rw (eq-eqb (get_or order step 0) w e) in
        omega (arith, count_take_le w order (step + 1))

    go : (w : ℕ) → get_or order step 0 ≡ w → count w (take step order) < length (log_of w first second)
    go zero e = omega (arith, more 0 e, o.zeros)
    go (suc zero) e = omega (arith, more 1 e, o.ones)
    go (suc (suc x)) e = absurd (no_other order step x (all_two o) h e)

-- a step of an order that is not 0 is 1
pub step_one : {first second order : List ℕ} (step : ℕ) → OrderOf first second order → step < length order → (get_or order step 0 ≡ 0 → ⊥) → get_or order step 0 ≡ 1
step_one {order = order} step o h miss = go (get_or order step 0) refl
  where
    go : (w : ℕ) → get_or order step 0 ≡ w → get_or order step 0 ≡ 1
    go zero e = absurd (miss e)
    go (suc zero) e = e
    go (suc (suc x)) e = absurd (no_other order step x (all_two o) h e)

-- letter number `step` of the word that an order makes is the next unread one of that step's log
pub woven_at : (order first second : List ℕ) (step d : ℕ) → OrderOf first second order → step < length order → get_or (woven order first second) step d ≡ get_or (log_of (which_at order step) first second) (read_at order step) d
unfolding count woven
woven_at [] first second step d o h = absurd (not-suc-le-zero h)
woven_at (zero ∷ order) [] second step d o h = absurd (omega (arith, o.zeros))
woven_at (zero ∷ order) (t ∷ first) second zero d o h = refl
woven_at (zero ∷ order) (t ∷ first) second (suc step) d o h =
    woven_at order first second step d (record { zeros = omega (arith, o.zeros); ones = omega (arith, o.ones); long = omega (arith, o.long) }) (le_of_suc-le-suc h)
    ∙ go (get_or order step 0)
  where
    go : (w : ℕ) → get_or (log_of w first second) (count w (take step order)) d ≡ get_or (log_of w (t ∷ first) second) (bit (eqb 0 w) + count w (take step order)) d
    go zero = ap (λ (k : ℕ). get_or (t ∷ first) k d) (one_more (count 0 (take step order)))
    go (suc x) = rw (eqb-zero-suc x, zero-add (count (suc x) (take step order)))
woven_at (suc zero ∷ order) first [] step d o h = absurd (omega (arith, o.ones))
woven_at (suc zero ∷ order) first (t ∷ second) zero d o h = refl
woven_at (suc zero ∷ order) first (t ∷ second) (suc step) d o h =
    woven_at order first second step d tail (le_of_suc-le-suc h) ∙ go (get_or order step 0) refl
  where
    tail : OrderOf first second order
    tail = record { zeros = omega (arith, o.zeros); ones = omega (arith, o.ones); long = omega (arith, o.long) }

    go : (w : ℕ) → get_or order step 0 ≡ w → get_or (log_of w first second) (count w (take step order)) d ≡ get_or (log_of w first (t ∷ second)) (bit (eqb 1 w) + count w (take step order)) d
    go zero e = rw (zero-add (count 0 (take step order)))
    go (suc zero) e = ap (λ (k : ℕ). get_or (t ∷ second) k d) (one_more (count 1 (take step order)))
    go (suc (suc x)) e = absurd (no_other order step x (all_two tail) (le_of_suc-le-suc h) e)
woven_at (suc (suc x) ∷ order) first second step d o h = absurd (no_other (suc (suc x) ∷ order) zero x (all_two o) (omega arith) refl)
