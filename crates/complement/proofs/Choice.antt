-- Laws of the chosen numbers, for any test: how many, which, and where each stands among them; and those of the test in force. Assumes nothing.
use Prim.Native.Nat.{ℕ, zero, suc, ◌+◌, ◌≤◌, ◌<◌, zero-le, suc-le-suc}
use mathlib.Core.Path.{◌≡◌, refl, sym, ◌∙◌}
use mathlib.Core.Bool.{Bool, true, false, cond, ◌||◌}
use mathlib.Core.List.{List, [], ◌∷◌, map}
use mathlib.Core.Logic.{◌⊎◌, inl, inr, ◌↔◌}
use native.Mathlib.Omega.{arith}
use native.Mathlib.Nat.{not-suc-le-zero, le_of_suc-le-suc, eq-or-lt_of_le}
use lib.ListN.{length, get_or}
use lib.Dec.{ltb}
use borrow.Author.Tests.{ltb-true, lt-ltb, ne_eqb}
use Rattle.ground.specs.Limits.{no_capacity}
use Rattle.ground.proofs.Tests.{never, and-true, or-false, unlike_false}
use Rattle.net.specs.Net.{Net, Pre, rise, capacity, Capped, mark, Pocket}
use Rattle.net.proofs.Rule.{leaves_plain, force_capped}
use Rattle.complement.specs.Complement.{Changed, changed, pocket_of, made, chosen_from}
use Rattle.complement.proofs.Changes.{unlike_true, unchanged_flat, changed_means, means_changed}

-- k is one of the n numbers from p on, and passes the test
pub record Chosen (f : ℕ → Bool) (p n k : ℕ) : Type 0 where
  pub from : p ≤ k
  pub below : k < p + n
  pub passes : f k ≡ true

module _ (f : ℕ → Bool) where
  -- no more than there are numbers
  pub chosen_few : (p n : ℕ) → length (chosen_from f p n) ≤ n
  unfolding chosen_from
  chosen_few p zero = zero-le
  chosen_few p (suc n) = go (f p) (chosen_few (suc p) n)
    where
      go : (b : Bool) → length (chosen_from f (suc p) n) ≤ n → length (cond b (p ∷ chosen_from f (suc p) n) (chosen_from f (suc p) n)) ≤ suc n
      go true h = suc-le-suc h
      go false h = omega arith

  -- each passes the test
  pub chosen_is : (p n j : ℕ) → j < length (chosen_from f p n) → Chosen f p n (get_or (chosen_from f p n) j 0)
  unfolding chosen_from
  chosen_is p zero j h = absurd (not-suc-le-zero h)
  chosen_is p (suc n) j h = go (f p) refl j (chosen_is (suc p) n) h
    where
      later : (k : ℕ) → Chosen f (suc p) n k → Chosen f p (suc n) k
      later k c = record { from = omega (arith, c.from); below = omega (arith, c.below); passes = c.passes }

      go : (b : Bool) → f p ≡ b → (j : ℕ) → ((j : ℕ) → j < length (chosen_from f (suc p) n) → Chosen f (suc p) n (get_or (chosen_from f (suc p) n) j 0)) → j < length (cond (f p) (p ∷ chosen_from f (suc p) n) (chosen_from f (suc p) n)) → Chosen f p (suc n) (get_or (cond (f p) (p ∷ chosen_from f (suc p) n) (chosen_from f (suc p) n)) j 0)
      go true e zero ih h = rw e (record { from = omega arith; below = omega arith; passes = e })
      go true e (suc j) ih h = rw e (later _ (ih j (le_of_suc-le-suc (rw e at h))))
      go false e j ih h = rw e (later _ (ih j (rw e at h)))

  -- and each that passes it is among them
  pub chosen_has : (p n k : ℕ) → Chosen f p n k → (j : ℕ) × (j < length (chosen_from f p n)) × (get_or (chosen_from f p n) j 0 ≡ k)
  unfolding chosen_from
  chosen_has p zero k c = let a = c.from in let b = c.below in absurd (omega arith)
  chosen_has p (suc n) k c = go (f p) refl (eq-or-lt_of_le c.from) (chosen_has (suc p) n k)
    where
      later : p < k → Chosen f (suc p) n k
      later h = record { from = h; below = omega (arith, c.below); passes = c.passes }

      go : (b : Bool) → f p ≡ b → (p ≡ k) ⊎ (p < k) → (Chosen f (suc p) n k → (j : ℕ) × (j < length (chosen_from f (suc p) n)) × (get_or (chosen_from f (suc p) n) j 0 ≡ k)) → (j : ℕ) × (j < length (cond (f p) (p ∷ chosen_from f (suc p) n) (chosen_from f (suc p) n))) × (get_or (cond (f p) (p ∷ chosen_from f (suc p) n) (chosen_from f (suc p) n)) j 0 ≡ k)
      go true e (inl q) ih = rw e (0, suc-le-suc zero-le, q)
      go true e (inr h) ih = let r = ih (later h) in rw e (suc r.0, suc-le-suc r.1, r.2)
      go false e (inl q) ih = never (sym c.passes ∙ rw (← q) e)
      go false e (inr h) ih = rw e (ih (later h))

  -- they ascend
  pub chosen_order : (p n i j : ℕ) → i < j → j < length (chosen_from f p n) → get_or (chosen_from f p n) i 0 < get_or (chosen_from f p n) j 0
  unfolding chosen_from
  chosen_order p zero i j h l = absurd (not-suc-le-zero l)
  chosen_order p (suc n) i j h l = go (f p) i j (chosen_order (suc p) n) h l
    where
      go : (b : Bool) (i j : ℕ) → ((i j : ℕ) → i < j → j < length (chosen_from f (suc p) n) → get_or (chosen_from f (suc p) n) i 0 < get_or (chosen_from f (suc p) n) j 0) → i < j → j < length (cond b (p ∷ chosen_from f (suc p) n) (chosen_from f (suc p) n)) → get_or (cond b (p ∷ chosen_from f (suc p) n) (chosen_from f (suc p) n)) i 0 < get_or (cond b (p ∷ chosen_from f (suc p) n) (chosen_from f (suc p) n)) j 0
      go true i zero ih h l = absurd (not-suc-le-zero h)
      go true zero (suc j) ih h l = (chosen_is (suc p) n j (le_of_suc-le-suc l)).from
      go true (suc i) (suc j) ih h l = ih i j (le_of_suc-le-suc h) (le_of_suc-le-suc l)
      go false i j ih h l = ih i j h l

  -- two functions that agree at the numbers that pass the test agree over the chosen ones
  pub chosen_map : (g h : ℕ → ℕ) (p n : ℕ) → ((k : ℕ) → k < p + n → f k ≡ true → g k ≡ h k) → map g (chosen_from f p n) ≡ map h (chosen_from f p n)
  unfolding chosen_from
  chosen_map g h p zero same = refl
  chosen_map g h p (suc n) same = go (f p) (same p (omega arith)) (chosen_map g h (suc p) n (λ k l. same k (omega arith)))
    where
      go : (b : Bool) → (b ≡ true → g p ≡ h p) → map g (chosen_from f (suc p) n) ≡ map h (chosen_from f (suc p) n) → map g (cond b (p ∷ chosen_from f (suc p) n) (chosen_from f (suc p) n)) ≡ map h (cond b (p ∷ chosen_from f (suc p) n) (chosen_from f (suc p) n))
      go true e r = rw (e refl, r)
      go false e r = r

-- g of each entry
pub map_at_lem : (g : ℕ → ℕ) (l : List ℕ) (j : ℕ) → j < length l → get_or (map g l) j 0 ≡ g (get_or l j 0)
map_at_lem g [] j h = absurd (not-suc-le-zero h)
map_at_lem g (x ∷ l) zero h = refl
map_at_lem g (x ∷ l) (suc j) h = map_at_lem g l j (le_of_suc-le-suc h)

-- The test in force, by what the theorems use of it: a new place stands for a place that has a capacity, and that is a pocket or that
-- some transition changes,
pub made_capped : (net : Net) (p : ℕ) → made net p ≡ true → Capped net p
unfolding made
made_capped net p e = ltb-true (capacity net p) no_capacity (and-true _ _ e).0

pub made_wanted : (net : Net) (p : ℕ) → made net p ≡ true → Pocket net p ⊎ Changed net p
unfolding made
made_wanted net p e = go (pocket_of (mark net p)) refl
  where
    wanted : (pocket_of (mark net p) || changed net p) ≡ true
    wanted = (and-true (ltb (capacity net p) no_capacity) _ e).1

    go : (b : Bool) → pocket_of (mark net p) ≡ b → Pocket net p ⊎ Changed net p
    go true q = inl (unlike_true (mark net p) 0 q)
    go false q = inr (changed_means net p (rw q at wanted))

-- each such place gets a new place,
pub wanted_made : (net : Net) (p : ℕ) → Capped net p → Pocket net p ⊎ Changed net p → made net p ≡ true
unfolding made
wanted_made net p c (inl k) = rw (lt-ltb (capacity net p) no_capacity c, ne_eqb (mark net p) 0 k)
wanted_made net p c (inr d) = rw (lt-ltb (capacity net p) no_capacity c, means_changed net p d) (go (pocket_of (mark net p)))
  where
    go : (b : Bool) → (b || true) ≡ true
    go true = refl
    go false = refl

pub made_exactly : (net : Net) (p : ℕ) → made net p ≡ true ↔ (Capped net p × (Pocket net p ⊎ Changed net p))
made_exactly net p = (λ e. (made_capped net p e, made_wanted net p e), λ c. wanted_made net p c.0 c.1)

-- and a place that has a capacity, but no new place, is plain and never rises
pub unmade_flat : (net : Net) (p t : ℕ) → t < net.transitions → Capped net p → made net p ≡ false → rise net p t ≡ 0
unfolding made
unmade_flat net p t h c e =
    let k = or-false (pocket_of (mark net p)) (changed net p) (rw (lt-ltb (capacity net p) no_capacity c) at e) in
    let z = unlike_false (mark net p) 0 k.0 in
    rw (force_capped (capacity net p) (mark net p) c, leaves_plain (mark net p) (Pre net p t) z) (omega (arith, unchanged_flat net p k.1 t h))
