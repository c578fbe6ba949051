-- Laws of a walk down one bucket, for any hash: it ends at what is looked for, and where it ends without it the list does not hold it. Assumes nothing.
use Prim.Native.Nat.{ℕ, ◌-◌, ◌*◌, ◌≤◌, ◌<◌}
use mathlib.Core.Path.{◌≡◌, refl, sym, ap, ◌∙◌}
use mathlib.Core.Bool.{Bool, true, false}
use mathlib.Core.List.{List}
use native.Mathlib.Omega.{arith}
use native.Mathlib.Decide.{dec_le, dec_lt}
use lib.ListN.{length, get_or}
use lib.Seq.{ext_get_or}
use Rattle.ground.proofs.Tests.{unlike_false}
use Rattle.refusals.specs.Given.{unlike}
use Rattle.lists.specs.Some.{some}
use Rattle.lists.specs.Whole.{marking_at}
use Rattle.lists.specs.Match.{alike, matches}
use Rattle.lists.specs.declared.Kind.TheVariants.{Closed}
use Rattle.lists.proofs.Somes.{none_at, some_is, some_end}
use Rattle.lists.proofs.Wholes.{marking_long}
use Rattle.list_index.specs.Index.{latest}
use Rattle.list_index.proofs.Latest.{latest_most, latest_here, latest_apart}

-- every number below n that passes the test is of bucket b
pub record Within (h : ℕ → ℕ) (f : ℕ → Bool) (b n : ℕ) : Type 0 where
  pub same : (j : ℕ) → j < n → f j ≡ true → h j ≡ b

-- what a walk knows at its cursor: that number of bucket b comes next, and nothing from the cursor on passes the test
pub record Walk (h : ℕ → ℕ) (f : ℕ → Bool) (b n at : ℕ) : Type 0 where
  pub most : at ≤ n
  pub here : 0 < at → h (at - 1) ≡ b
  pub passed : (j : ℕ) → at ≤ j → j < n → f j ≡ false

module _ (h : ℕ → ℕ) (f : ℕ → Bool) (b n : ℕ) (w : Within h f b n) where
  apart : (j : ℕ) → j < n → (h j ≡ b → ⊥) → f j ≡ false
  apart j l x = go (f j) refl
    where
      go : (t : Bool) → f j ≡ t → f j ≡ false
      go true q = absurd (x (w.same j l q))
      go false q = q

  pub walk_start : (at : ℕ) → at ≡ latest h b n → Walk h f b n at
  walk_start at e =
      rw e
      (record {
        most = latest_most h b n;
        here = latest_here h b n;
        passed = λ j a l. apart j l (latest_apart h b n j a l);
      })

  -- r is the test's answer, and to the link that is followed
  pub walk_next : (at to : ℕ) (r : Bool) → Walk h f b n at → 0 < at → r ≡ f (at - 1) → r ≡ false → to ≡ latest h (h (at - 1)) (at - 1) → Walk h f b n to
  walk_next at to r k z e t q =
      rw (q ∙ ap (λ (c : ℕ). latest h c (at - 1)) (k.here z))
      (record {
        most = omega (arith, latest_most h b (at - 1), k.most);
        here = latest_here h b (at - 1);
        passed = λ j a l. go j a l (dec_lt j (at - 1)) (dec_le at j);
      })
    where
      go : (j : ℕ) → latest h b (at - 1) ≤ j → j < n → Dec (j < at - 1) → Dec (at ≤ j) → f j ≡ false
      go j a l (yes s) d = apart j l (latest_apart h b (at - 1) j a s)
      go j a l (no s) (yes d) = k.passed j d l
      go j a l (no s) (no d) = let p : j ≡ at - 1 = omega arith in ap f p ∙ sym e ∙ t

pub walk_hit : (f : ℕ → Bool) (n at : ℕ) (r : Bool) → r ≡ f (at - 1) → r ≡ true → 0 < at → at ≤ n → true ≡ some f n
walk_hit f n at r e t z h = sym (some_is f n (at - 1) (omega arith) (sym e ∙ t))

pub walk_end : (h : ℕ → ℕ) (f : ℕ → Bool) (b n at : ℕ) → Walk h f b n at → at ≤ 0 → false ≡ some f n
walk_end h f b n at k z =
    some_end f n n (record { none = λ j l. k.passed j (omega arith) l }) (omega arith) (omega arith)

-- two markings that agree at every place are the same list
pub same_list : (l m : List ℕ) → length l ≡ length m → matches Closed l m ≡ true → l ≡ m
unfolding matches
same_list l m e q =
    ext_get_or 0 l m e
    (λ p h. unlike_false (get_or l p 0) (get_or m p 0) (none_at (λ p. unlike (get_or l p 0) (get_or m p 0)) (length m) q p (rw e at h)))

-- so that a listed marking which is the one looked for has its hash, whatever the hash is
pub within : (hash : List ℕ → ℕ) (P n : ℕ) (list m : List ℕ) → length list ≡ n * P → length m ≡ P → Within (λ k. hash (marking_at P list k)) (λ k. matches Closed (marking_at P list k) m) (hash m) n
within hash P n list m long e =
    record { same = λ j l q. ap hash (same_list (marking_at P list j) m (marking_long P n list j long l ∙ sym e) q) }

pub match_same : (l m : List ℕ) (r : Bool) → r ≡ alike l m → r ≡ matches Closed l m
unfolding matches
match_same l m r e = e
