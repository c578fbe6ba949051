-- Laws of `some` and `none`: the turns of a loop that answers one, and what the answer says. Assumes nothing.
use Prim.Native.Nat.{ℕ, ◌≤◌, ◌<◌}
use mathlib.Core.Path.{◌≡◌}
use mathlib.Core.Bool.{Bool, true, false}
use native.Mathlib.Omega.{arith}
use borrow.Author.Tests.{lt-ltb, le-ltb, le-leb, lt-leb, ltb-true, ltb-false, leb-true, leb-false}
use Rattle.ground.specs.Lists.{first}
use Rattle.ground.proofs.Scan.{Below, scan_hit, scan_end, first_none, first_below, first_passes, first_found}
use Rattle.lists.specs.Some.{some, none}

-- where a scan stops at i, and where it ends
module _ (f : ℕ → Bool) (n i : ℕ) (lo : Below f i) where
  pub some_hit : (r : Bool) → r ≡ f i → r ≡ true → i < n → true ≡ some f n
  unfolding some
  some_hit r e t h = rw (← scan_hit f n i r lo e t h, lt-ltb i n h)

  pub none_hit : (r : Bool) → r ≡ f i → r ≡ true → i < n → false ≡ none f n
  unfolding none
  none_hit r e t h = rw (← scan_hit f n i r lo e t h, lt-leb n i h)

  pub some_end : i ≤ n → n ≤ i → false ≡ some f n
  unfolding some
  some_end h l = rw (← scan_end f n i lo h l, le-ltb i n l)

  pub none_end : i ≤ n → n ≤ i → true ≡ none f n
  unfolding none
  none_end h l = rw (← scan_end f n i lo h l, le-leb n i l)

pub ruleset somes = (some_hit, none_hit, some_end, none_end)

module _ (f : ℕ → Bool) (n : ℕ) where
  -- the answer yes names the first
  pub some_first : some f n ≡ true → (first f n < n) × (f (first f n) ≡ true)
  unfolding some
  some_first e = let h = ltb-true (first f n) n e in (h, first_passes f n h)

  -- the answer no says that none passes
  pub some_none : some f n ≡ false → (k : ℕ) → k < n → f k ≡ false
  unfolding some
  some_none e k h = let l = ltb-false (first f n) n e in first_below f n k (omega arith)

  pub some_is : (k : ℕ) → k < n → f k ≡ true → some f n ≡ true
  unfolding some
  some_is k h e = lt-ltb (first f n) n (first_found f n k h e)

  pub is_none : ((k : ℕ) → k < n → f k ≡ false) → none f n ≡ true
  unfolding none
  is_none lo = let e = first_none f n lo in le-leb n (first f n) (omega arith)

  pub none_at : none f n ≡ true → (k : ℕ) → k < n → f k ≡ false
  unfolding none
  none_at e k h = let l = leb-true n (first f n) e in first_below f n k (omega arith)

  pub none_first : none f n ≡ false → (first f n < n) × (f (first f n) ≡ true)
  unfolding none
  none_first e = let h = leb-false n (first f n) e in (h, first_passes f n h)
