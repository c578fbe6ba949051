-- Laws of `first` and `tally`, and of a loop that looks for the lowest place that passes a test. Assumes nothing.
use Prim.Native.Nat.{ℕ, zero, suc, ◌+◌, ◌≤◌, ◌<◌, zero-le, suc-le-suc}
use mathlib.Core.Path.{◌≡◌, refl, sym, ap, ◌∙◌}
use mathlib.Core.Bool.{Bool, true, false, cond}
use native.Mathlib.Omega.{arith}
use native.Mathlib.Decide.{dec_lt}
use native.Mathlib.Numerals.{add-one}
use native.Mathlib.Nat.{not-suc-le-zero, le_of_suc-le-suc}
use Rattle.std.specs.Prelude.{Some, None}
use lib.Dec.{eqb}
use borrow.Author.Tests.{lt-ltb, le-ltb}
use mir.Syntax.{w32}
use mir.Val.{Fits}
use borrow.Author.Count.{below_more}
use Rattle.ground.specs.Limits.{count_limit}
use Rattle.ground.specs.Lists.{first, found, bit, tally}
use Rattle.ground.proofs.Tests.{never}

pub first-at : (f : ℕ → Bool) (n i : ℕ) → ((k : ℕ) → k < i → f k ≡ false) → f i ≡ true → i < n → first f n ≡ i
unfolding first
first-at f zero i lo hit h = absurd (not-suc-le-zero h)
first-at f (suc n) zero lo hit h = rw hit
first-at f (suc n) (suc i) lo hit h =
    rw (lo zero (suc-le-suc zero-le))
    (ap suc (first-at (λ k. f (suc k)) n i (λ k l. lo (suc k) (suc-le-suc l)) hit (le_of_suc-le-suc h)))

pub first_none : (f : ℕ → Bool) (n : ℕ) → ((k : ℕ) → k < n → f k ≡ false) → first f n ≡ n
unfolding first
first_none f zero lo = refl
first_none f (suc n) lo =
    rw (lo zero (suc-le-suc zero-le)) (ap suc (first_none (λ k. f (suc k)) n (λ k l. lo (suc k) (suc-le-suc l))))

-- nothing below the first passes
pub first_below : (f : ℕ → Bool) (n k : ℕ) → k < first f n → f k ≡ false
unfolding first
first_below f zero k h = absurd (not-suc-le-zero h)
first_below f (suc n) k h = go (f zero) refl k h (first_below (λ k. f (suc k)) n)
  where
    go : (b : Bool) → f zero ≡ b → (k : ℕ) → k < cond (f zero) zero (suc (first (λ k. f (suc k)) n)) → ((k : ℕ) → k < first (λ k. f (suc k)) n → f (suc k) ≡ false) → f k ≡ false
    go true e k l ih = absurd (not-suc-le-zero (rw e at l))
    go false e zero l ih = e
    go false e (suc k) l ih = ih k (le_of_suc-le-suc (rw e at l))

-- the first passes, where there is one
pub first_passes : (f : ℕ → Bool) (n : ℕ) → first f n < n → f (first f n) ≡ true
unfolding first
first_passes f zero h = absurd (not-suc-le-zero h)
first_passes f (suc n) h = go (f zero) refl h (first_passes (λ k. f (suc k)) n)
  where
    go : (b : Bool) → f zero ≡ b → cond (f zero) zero (suc (first (λ k. f (suc k)) n)) < suc n → (first (λ k. f (suc k)) n < n → f (suc (first (λ k. f (suc k)) n)) ≡ true) → f (cond (f zero) zero (suc (first (λ k. f (suc k)) n))) ≡ true
    go true e l ih = rw e e
    go false e l ih = rw e (ih (le_of_suc-le-suc (rw e at l)))

-- there is one where some number passes
pub first_found : (f : ℕ → Bool) (n k : ℕ) → k < n → f k ≡ true → first f n < n
first_found f n k h e = go (dec_lt (first f n) n)
  where
    go : Dec (first f n < n) → first f n < n
    go (yes l) = l
    go (no l) = never (sym e ∙ first_below f n k (omega arith))

pub first_most : (f : ℕ → Bool) (n : ℕ) → first f n ≤ n
unfolding first
first_most f zero = zero-le
first_most f (suc n) = go (f zero) (first_most (λ k. f (suc k)) n)
  where
    go : (b : Bool) → first (λ k. f (suc k)) n ≤ n → cond b zero (suc (first (λ k. f (suc k)) n)) ≤ suc n
    go true ih = zero-le
    go false ih = suc-le-suc ih

-- nothing below i passes the test: what a scan knows at i
pub record Below (f : ℕ → Bool) (i : ℕ) : Type 0 where
  pub none : (k : ℕ) → k < i → f k ≡ false

-- a scan's turns: r is the test's answer at i
pub scan_start : (f : ℕ → Bool) → Below f 0
scan_start f = record { none = λ k h. absurd (not-suc-le-zero h) }

pub scan_hit : (f : ℕ → Bool) (n i : ℕ) (r : Bool) → Below f i → r ≡ f i → r ≡ true → i < n → i ≡ first f n
scan_hit f n i r lo e t h = sym (first-at f n i lo.none (sym e ∙ t) h)

pub scan_next : (f : ℕ → Bool) (i : ℕ) (r : Bool) → Below f i → r ≡ f i → r ≡ false → Below f (i + 1)
scan_next f i r lo e t = record { none = below_more (λ k. f k ≡ false) i lo.none (sym e ∙ t) }

pub scan_end : (f : ℕ → Bool) (n i : ℕ) → Below f i → i ≤ n → n ≤ i → i ≡ first f n
scan_end f n i lo h l = let e : i ≡ n = omega arith in e ∙ sym (first_none f n (rw e at lo.none))

-- ... and where the scan answers what it found
pub scan_some : (f : ℕ → Bool) (n i : ℕ) (r : Bool) → Below f i → r ≡ f i → r ≡ true → i < n → Some i ≡ found n (first f n)
scan_some f n i r lo e t h = rw (← scan_hit f n i r lo e t h, lt-ltb i n h)

pub scan_none : (f : ℕ → Bool) (n i : ℕ) → Below f i → i ≤ n → n ≤ i → None ≡ found n (first f n)
scan_none f n i lo h l = rw (← scan_end f n i lo h l, le-ltb i n l)

-- what is found is the first number that passes, and none is found where none is below the limit
pub found_first : (n k i : ℕ) → Some i ≡ found n k → (i ≡ k) × (k < n)
found_first n k i e = go (dec_lt k n)
  where
    go : Dec (k < n) → (i ≡ k) × (k < n)
    go (yes h) = let q : Some i ≡ Some k = rw (lt-ltb k n h) at e in ((cc), h)
    go (no h) = let q : Some i ≡ None = rw (le-ltb k n (omega arith)) at e in absurd (cc)

pub found_none : (n k : ℕ) → None ≡ found n k → n ≤ k
found_none n k e = go (dec_lt k n)
  where
    go : Dec (k < n) → n ≤ k
    go (yes h) = let q : None ≡ Some k = rw (lt-ltb k n h) at e in absurd (cc)
    go (no h) = omega arith

pub ruleset scans = (scan_start, scan_hit, scan_next, scan_end, scan_some, scan_none)

-- a count's turns
pub tally_start : (f : ℕ → Bool) → 0 ≡ tally f 0
unfolding tally
tally_start f = refl

pub tally_next : (f : ℕ → Bool) (i n r : ℕ) → n ≡ tally f i → r ≡ bit (f i) → n + r ≡ tally f (i + 1)
unfolding tally
tally_next f i n r e q = rw (e, q, add-one i)

pub bit_most : (b : Bool) → bit b ≤ 1
bit_most true = omega arith
bit_most false = omega arith

pub tally_most : (f : ℕ → Bool) (n : ℕ) → tally f n ≤ n
unfolding tally
tally_most f zero = zero-le
tally_most f (suc n) = omega (arith, tally_most f n, bit_most (f n))

-- one more still fits, for as many as places can be
pub tally_fits : (f : ℕ → Bool) (i n r b : ℕ) → n ≡ tally f i → r ≡ bit (f i) → i < b → b ≤ count_limit → Fits w32 (n + r)
tally_fits f i n r b e q h l = record { fits = omega (arith, tally_most f i, bit_most (f i)) }

pub tally_end : (f : ℕ → Bool) (i n b : ℕ) → n ≡ tally f i → i ≤ b → b ≤ i → eqb n 0 ≡ eqb (tally f b) 0
tally_end f i n b e h l = let q : i ≡ b = omega arith in rw (e, q)

pub ruleset tallies = (tally_start, tally_next, tally_end)

-- tests with the same answers count alike
pub tally_alike : (f g : ℕ → Bool) (n : ℕ) → ((k : ℕ) → k < n → f k ≡ g k) → tally f n ≡ tally g n
unfolding tally
tally_alike f g zero e = refl
tally_alike f g (suc n) e = rw (tally_alike f g n (λ k h. e k (omega arith)), e n (omega arith))

-- none passes exactly where the count is 0
pub tally_none : (f : ℕ → Bool) (n : ℕ) → Below f n → tally f n ≡ 0
unfolding tally
tally_none f zero lo = refl
tally_none f (suc n) lo =
    rw (lo.none n (omega arith)) (omega (arith, tally_none f n (record { none = λ k h. lo.none k (omega arith) })))

pub none_of : (f : ℕ → Bool) (n : ℕ) → tally f n ≡ 0 → Below f n
unfolding tally
none_of f zero e = scan_start f
none_of f (suc n) e = go (f n) refl (none_of f n)
  where
    go : (b : Bool) → f n ≡ b → (tally f n ≡ 0 → Below f n) → Below f (suc n)
    go true q ih = absurd (one (rw q at e))
      where
        one : tally f n + 1 ≡ 0 → ⊥
        one h = omega arith
    go false q ih =
        let lo = ih (omega (arith, rw q at e)) in
        record { none = λ k h. below_more (λ k. f k ≡ false) n lo.none q k (rw add-one h) }
