-- To be believed: the least number that passes a test, how many do, the largest value; a list changed entry by entry, and a list made by number.
use Rattle.std.specs.Prelude.{ℕ, zero, suc, ◌+◌, max, Bool, true, false, cond, List, [], ◌∷◌, ltb, Option, Some, None}

-- the least k < n with `f k`, or n where there is none
unfoldable pub first : (ℕ → Bool) → ℕ → ℕ
first f zero = zero
first f (suc n) = cond (f zero) zero (suc (first (λ k. f (suc k)) n))

-- a number that is found where it is below n, as `first f n` is where some number passes
abbrev pub found : ℕ → ℕ → Option ℕ
found n k = cond (ltb k n) (Some k) None

-- 1 for yes, 0 for no
abbrev pub bit : Bool → ℕ
bit true = 1
bit false = 0

-- how many k < n have `f k`
unfoldable pub tally : (ℕ → Bool) → ℕ → ℕ
tally f zero = 0
tally f (suc n) = tally f n + bit (f n)

-- the largest of 0, f 0, .., f (n - 1)
unfoldable pub most : ℕ → (ℕ → ℕ) → ℕ
most zero f = 0
most (suc n) f = max (most n f) (f n)

-- each entry x of the list, at k, becomes g k x
unfoldable pub map_at : {A B : Type 0} → (ℕ → A → B) → List A → List B
map_at g [] = []
map_at g (x ∷ xs) = g zero x ∷ map_at (λ k. g (suc k)) xs

-- f 0, f 1, .., f (n - 1)
unfoldable pub table : {A : Type 0} → (ℕ → A) → ℕ → List A
table f zero = []
table f (suc n) = f zero ∷ table (λ k. f (suc k)) n
