-- Laws of a list looked through for its first failing pair, for any test of a pair: the turns of the two loops that look, and what
-- each answer says. Assumes nothing.
use Prim.Native.Nat.{ℕ, ◌+◌, ◌≤◌, ◌<◌}
use mathlib.Core.Path.{◌≡◌, refl, sym, ◌∙◌}
use mathlib.Core.Bool.{Bool, true, false}
use native.Mathlib.Omega.{arith}
use lib.Dec.{ltb}
use borrow.Author.Tests.{lt-ltb, le-ltb, ltb-true, ltb-false}
use Rattle.ground.proofs.Tests.{never}
use Rattle.ground.proofs.Scan.{Below, scan_hit, scan_next, scan_end, first_below, first_passes}
use Rattle.lists.specs.Pairs.{lowest_missing, fails, first_failing, results_of, looked_of}
use Rattle.lists.specs.declared.Failure.TheVariants.{InitialMissing, ResultMissing}
use Rattle.lists.specs.declared.ListAnswer.{ListAnswer}
use Rattle.lists.specs.declared.ListAnswer.TheVariants.{Accepted, Failed}
use Rattle.lists.proofs.Somes.{some_hit, some_end, some_first, some_none}

-- the turns of the two loops over the pairs
module _ (missing : ℕ → ℕ → Bool) (T k : ℕ) (lo : Below (fails missing T) k) where
  pub marking_passes : (t : ℕ) → Below (missing k) t → t ≤ T → T ≤ t → Below (fails missing T) (k + 1)
  marking_passes t low h l = scan_next (fails missing T) k false lo (some_end (missing k) T t low h l) refl

  module _ (n : ℕ) where
    pub results_found : (t : ℕ) → Below (missing k) t → (r : Bool) → r ≡ missing k t → r ≡ true → k < n → t < T → Failed (ResultMissing k t) ≡ results_of missing T n
    unfolding results_of
    results_found t low r e q hk ht =
        let i = scan_hit (fails missing T) n k true lo (some_hit (missing k) T t low r e q ht) refl hk in
        rw (← i, lt-ltb k n hk, ← scan_hit (missing k) T t r low e q ht)

    pub results_none : k ≤ n → n ≤ k → Accepted ≡ results_of missing T n
    unfolding results_of
    results_none h l = rw (← scan_end (fails missing T) n k lo h l, le-ltb k n l)

-- the initial marking, then the results
module _ (starts : Bool) (missing : ℕ → ℕ → Bool) (T n : ℕ) (b : Bool) (e : b ≡ starts) where
  pub looked_holds : (r : ListAnswer) → b ≡ true → r ≡ results_of missing T n → r ≡ looked_of starts missing T n
  unfolding looked_of
  looked_holds r q k = rw (sym e ∙ q) k

  pub looked_missing : b ≡ false → Failed InitialMissing ≡ looked_of starts missing T n
  unfolding looked_of
  looked_missing q = rw (sym e ∙ q)

pub ruleset looks = (looked_holds, looked_missing)

-- ---- what each answer says
-- the first marking, and in it the lowest transition, that fails the test
pub record FirstPair (missing : ℕ → ℕ → Bool) (T n k t : ℕ) : Type 0 where
  pub inside : k < n
  pub named : t < T
  pub missed : missing k t ≡ true
  pub lower : (u : ℕ) → u < t → missing k u ≡ false
  pub earlier : (j u : ℕ) → j < k → u < T → missing j u ≡ false

-- no pair fails it
abbrev pub NoPair : (ℕ → ℕ → Bool) → ℕ → ℕ → Type 0
NoPair missing T n = (k t : ℕ) → k < n → t < T → missing k t ≡ false

-- the pair that the search names
first_pair : (missing : ℕ → ℕ → Bool) (T n : ℕ) → first_failing missing T n < n → FirstPair missing T n (first_failing missing T n) (lowest_missing missing T (first_failing missing T n))
first_pair missing T n x =
    let f = some_first (missing (first_failing missing T n)) T (first_passes (fails missing T) n x) in
    record {
      inside = x;
      named = f.0;
      missed = f.1;
      lower = λ u h. first_below (missing (first_failing missing T n)) T u h;
      earlier = λ j u h hu. some_none (missing j) T (first_below (fails missing T) n j h) u hu;
    }

no_pair : (missing : ℕ → ℕ → Bool) (T n : ℕ) → n ≤ first_failing missing T n → NoPair missing T n
no_pair missing T n x k t hk ht = some_none (missing k) T (first_below (fails missing T) n k (omega arith)) t ht

module _ (missing : ℕ → ℕ → Bool) (T n : ℕ) where
  accepted_results : NoPair missing T n → results_of missing T n ≡ Accepted
  unfolding results_of
  accepted_results lo = go (ltb (first_failing missing T n) n) refl
    where
      go : (b : Bool) → ltb (first_failing missing T n) n ≡ b → results_of missing T n ≡ Accepted
      go true e =
          let f = first_pair missing T n (ltb-true (first_failing missing T n) n e) in
          never (sym f.missed ∙ lo (first_failing missing T n) (lowest_missing missing T (first_failing missing T n)) f.inside f.named)
      go false e = rw e

  -- a list is accepted where its start holds and no pair fails
  pub accepted_looked : (starts : Bool) → starts ≡ true → NoPair missing T n → looked_of starts missing T n ≡ Accepted
  unfolding looked_of
  accepted_looked starts e lo = rw e (accepted_results lo)

  results_accepted : results_of missing T n ≡ Accepted → NoPair missing T n
  unfolding results_of
  results_accepted q = go (ltb (first_failing missing T n) n) refl
    where
      go : (b : Bool) → ltb (first_failing missing T n) n ≡ b → NoPair missing T n
      go true e = let z : ◌≡◌ {A = ℕ} 0 1 = cc (rw e at q) in absurd (omega arith)
      go false e = no_pair missing T n (ltb-false (first_failing missing T n) n e)

  results_initial : results_of missing T n ≡ Failed InitialMissing → ⊥
  unfolding results_of
  results_initial q = go (ltb (first_failing missing T n) n) refl
    where
      go : (b : Bool) → ltb (first_failing missing T n) n ≡ b → ⊥
      go true e = let z : ◌≡◌ {A = ℕ} 0 1 = cc (rw e at q) in omega arith
      go false e = let z : ◌≡◌ {A = ℕ} 0 1 = cc (rw e at q) in omega arith

  results_failed : (k t : ℕ) → results_of missing T n ≡ Failed (ResultMissing k t) → FirstPair missing T n k t
  unfolding results_of
  results_failed k t q = go (ltb (first_failing missing T n) n) refl
    where
      go : (b : Bool) → ltb (first_failing missing T n) n ≡ b → FirstPair missing T n k t
      go true e =
          let s = rw e at q in
          let a : first_failing missing T n ≡ k = cc in
          let b : lowest_missing missing T (first_failing missing T n) ≡ t = cc in
          rw (← b, ← a) (first_pair missing T n (ltb-true (first_failing missing T n) n e))
      go false e = let z : ◌≡◌ {A = ℕ} 0 1 = cc (rw e at q) in absurd (omega arith)

  failed_results : (k t : ℕ) → FirstPair missing T n k t → Failed (ResultMissing k t) ≡ results_of missing T n
  failed_results k t f =
      results_found missing T k (record { none = λ j h. sym (some_end (missing j) T T (record { none = λ u hu. f.earlier j u h hu }) (omega arith) (omega arith)) }) n t (record { none = f.lower })
      true (sym f.missed) refl f.inside f.named

  module _ (starts : Bool) where
    -- accepted says that its start holds and no pair fails
    pub looked_accepted : looked_of starts missing T n ≡ Accepted → (starts ≡ true) × NoPair missing T n
    unfolding looked_of
    looked_accepted q = go starts refl
      where
        go : (b : Bool) → starts ≡ b → (starts ≡ true) × NoPair missing T n
        go true e = (e, results_accepted (rw e at q))
        go false e = let z : ◌≡◌ {A = ℕ} 0 1 = cc (rw e at q) in absurd (omega arith)

    -- initial missing says that its start does not hold
    pub looked_initial : looked_of starts missing T n ≡ Failed InitialMissing → starts ≡ false
    unfolding looked_of
    looked_initial q = go starts refl
      where
        go : (b : Bool) → starts ≡ b → starts ≡ false
        go true e = absurd (results_initial (rw e at q))
        go false e = e

    -- and a pair is named where its start holds and that pair is the first that fails
    pub looked_result : (k t : ℕ) → looked_of starts missing T n ≡ Failed (ResultMissing k t) → (starts ≡ true) × FirstPair missing T n k t
    unfolding looked_of
    looked_result k t q = go starts refl
      where
        go : (b : Bool) → starts ≡ b → (starts ≡ true) × FirstPair missing T n k t
        go true e = (e, results_failed k t (rw e at q))
        go false e = let z : ◌≡◌ {A = ℕ} 0 1 = cc (rw e at q) in absurd (omega arith)

    -- and back: the start that fails is told, and the first pair that fails is the one that is named
    pub initial_looked : starts ≡ false → looked_of starts missing T n ≡ Failed InitialMissing
    initial_looked e = sym (looked_missing starts missing T n starts refl e)

    pub result_looked : (k t : ℕ) → starts ≡ true → FirstPair missing T n k t → looked_of starts missing T n ≡ Failed (ResultMissing k t)
    result_looked k t e f = sym (looked_holds starts missing T n starts refl (Failed (ResultMissing k t)) e (failed_results k t f))
