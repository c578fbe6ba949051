-- Laws of `count`: one step further, at most so many, and a count of the first steps. Assumes nothing.
use mathlib.Core.Path.{◌≡◌, refl, sym, ◌∙◌, ap}
use mathlib.Core.Bool.{Bool, true, false}
use Prim.Native.Nat.{ℕ, zero, suc, ◌+◌, ◌<◌, ◌≤◌, zero-le}
use native.Mathlib.Nat.{not-suc-le-zero, le_of_suc-le-suc, add_assoc, add-zero, zero-add, le_refl}
use native.Mathlib.Numerals.{add-one}
use native.Mathlib.Omega.{arith}
use mathlib.Core.List.{List, [], ◌∷◌}
use lib.ListN.{length, get_or, take}
use lib.Dec.{eqb}
use borrow.Author.Tests.{eq-eqb, ne_eqb}
use Rattle.ground.specs.Lists.{bit}
use Rattle.orders.specs.Orders.{count}

bit_le : (t : Bool) → bit t ≤ 1
bit_le true = le_refl 1
bit_le false = zero-le

count_suc : (b : ℕ) (xs : List ℕ) (i : ℕ) → i < length xs → count b (take (suc i) xs) ≡ count b (take i xs) + bit (eqb (get_or xs i 0) b)
unfolding count
count_suc b [] i l = absurd (not-suc-le-zero l)
count_suc b (x ∷ xs) zero l = add-zero (bit (eqb x b)) ∙ sym (zero-add (bit (eqb x b)))
count_suc b (x ∷ xs) (suc i) l = ap (λ (k : ℕ). bit (eqb x b) + k) (count_suc b xs i (le_of_suc-le-suc l)) ∙ sym (add_assoc (bit (eqb x b)) (count b (take i xs)) (bit (eqb (get_or xs i 0) b)))

-- one step further the count grows by whether the step is `b`
pub count_more : (b : ℕ) (xs : List ℕ) (i : ℕ) → i < length xs → count b (take (i + 1) xs) ≡ count b (take i xs) + bit (eqb (get_or xs i 0) b)
count_more b xs i l = ap (λ (k : ℕ). count b (take k xs)) (add-one i) ∙ count_suc b xs i l

pub count_none : (b : ℕ) (xs : List ℕ) → 0 ≡ count b (take 0 xs)
unfolding count
count_none b xs = refl

pub count_take_le : (b : ℕ) (xs : List ℕ) (i : ℕ) → count b (take i xs) ≤ count b xs
unfolding count
count_take_le b xs zero = zero-le
count_take_le b [] (suc i) = le_refl 0
count_take_le b (x ∷ xs) (suc i) = omega (arith, count_take_le b xs i)

pub count-le : (b : ℕ) (xs : List ℕ) → count b xs ≤ length xs
unfolding count
count-le b [] = le_refl 0
count-le b (x ∷ xs) = omega (arith, count-le b xs, bit_le (eqb x b))

-- a counter that stood at the count, one step further
pub count_hit : (b : ℕ) (xs : List ℕ) (i n : ℕ) → i < length xs → n ≡ count b (take i xs) → get_or xs i 0 ≡ b → n + 1 ≡ count b (take (i + 1) xs)
count_hit b xs i n l e h = ap (λ (k : ℕ). k + 1) e ∙ sym (count_more b xs i l ∙ ap (λ (t : Bool). count b (take i xs) + bit t) (eq-eqb _ _ h))

pub count_miss : (b : ℕ) (xs : List ℕ) (i n : ℕ) → i < length xs → n ≡ count b (take i xs) → (get_or xs i 0 ≡ b → ⊥) → n ≡ count b (take (i + 1) xs)
count_miss b xs i n l e h = e ∙ sym (count_more b xs i l ∙ ap (λ (t : Bool). count b (take i xs) + bit t) (ne_eqb _ _ h) ∙ add-zero (count b (take i xs)))
