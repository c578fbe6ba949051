-- Laws of a chain of refusals, for any chain: which fault it gives, and when it gives none. Assumes nothing.
use Rattle.std.proofs.lemmas.Result.{err_from_is_err_and}
use Rattle.std.specs.Result.{IsErrAnd}
use Rattle.std.specs.Prelude.{Option, Some, None, Result, Ok, Err}
use Rattle.refusals.specs.declared.Refusal.{Refusal}
use Rattle.refusals.specs.Given.{Fault, refusal, refused, refuse_found, behind_places}
use Rattle.ground.specs.Limits.{count_limit}
use Rattle.ground.specs.Lists.{found}
use Prim.Native.Nat.{ℕ, ◌+◌}
use mathlib.Core.Path.{◌≡◌, refl, ap, ◌∙◌}
use mathlib.Core.Bool.{Bool, true, false, cond}
use lib.Dec.{ltb}
use native.Mathlib.Omega.{arith}
use Rattle.refusals.specs.Given.{refuse, or_else}

-- a refusal is one number and position, whatever the question
pub refused_one : {A : Type 0} (n at k p : ℕ) → refused {A = A} n at ≡ refused k p → (n ≡ k) × (at ≡ p)
refused_one n at k p e = let q : refusal n at ≡ refusal k p = cc in (ap (λ (r : Refusal). r.number) q, ap (λ (r : Refusal). r.at) q)

pub not_sound : {A : Type 0} (n at : ℕ) → ◌≡◌ {A = Fault} (Err (refusal n at)) (Ok tt) → A
not_sound n at e = let z : ◌≡◌ {A = ℕ} 0 1 = cc in absurd (omega arith)

-- a chain gives its first part's fault, else its second part: at the exit of a `?`, and behind it
module _ {A : Type 0} (f : Fault) (g r : Result A Refusal) where
  pub chain_first : (e : Refusal) → IsErrAnd r (λ y. y ≡ e) → Err e ≡ f → r ≡ or_else f g
  chain_first e h q = let p = err_from_is_err_and r h in rw (p.1, p.2, ← q)

  pub chain_next : (u : Unit) → Ok u ≡ f → r ≡ g → r ≡ or_else f g
  chain_next u q k = rw (← q) k

pub ruleset chains = (chain_first, chain_next)

-- what was found is refused exactly as the scan's test says
pub refused_found : (n k number : ℕ) → refuse_found (found n k) number ≡ refuse (ltb k n) number k
refused_found n k number = go (ltb k n)
  where
    go : (b : Bool) → refuse_found (cond b (Some k) None) number ≡ refuse b number k
    go true = refl
    go false = refl

pub found_refused : (n k number : ℕ) (o : Option ℕ) (r : Fault) → o ≡ found n k → r ≡ refuse_found o number → r ≡ refuse (ltb k n) number k
found_refused n k number o r e q = q ∙ rw e (refused_found n k number)

behind_refused : (n t number : ℕ) → refuse_found (behind_places (found n t)) number ≡ refuse (ltb t n) number (count_limit + t)
behind_refused n t number = go (ltb t n)
  where
    go : (b : Bool) → refuse_found (behind_places (cond b (Some t) None)) number ≡ refuse b number (count_limit + t)
    go true = refl
    go false = refl

pub refused_behind : (n t number : ℕ) (o p : Option ℕ) (r : Fault) → o ≡ found n t → p ≡ behind_places o → r ≡ refuse_found p number → r ≡ refuse (ltb t n) number (count_limit + t)
refused_behind n t number o p r e h q = q ∙ rw (h, e) (behind_refused n t number)

-- one test; t is its answer
pub test_refused : (t : Bool) (n at : ℕ) → t ≡ true → Err (refusal n at) ≡ refuse t n at
test_refused t n at e = rw e

pub test_passed : (t : Bool) (n at : ℕ) → t ≡ false → Ok tt ≡ refuse t n at
test_passed t n at e = rw e

-- nothing is refused by a chain exactly where neither part refuses
pub or_sound : (f g : Fault) → or_else f g ≡ Ok tt → (f ≡ Ok tt) × (g ≡ Ok tt)
or_sound (Ok _) g e = (refl, e)
or_sound (Err r) g e = let z : ◌≡◌ {A = ℕ} 0 1 = cc in absurd (omega arith)

pub sound_or : (f g : Fault) → f ≡ Ok tt → g ≡ Ok tt → or_else f g ≡ Ok tt
sound_or f g p q = rw (p, q)

pub refuse_sound : (b : Bool) (n at : ℕ) → refuse b n at ≡ Ok tt → b ≡ false
refuse_sound true n at e = let z : ◌≡◌ {A = ℕ} 0 1 = cc in absurd (omega arith)
refuse_sound false n at e = refl

pub sound_refuse : (b : Bool) (n at : ℕ) → b ≡ false → refuse b n at ≡ Ok tt
sound_refuse b n at e = rw e

pub or_assoc : (f g h : Fault) → or_else (or_else f g) h ≡ or_else f (or_else g h)
or_assoc (Ok _) g h = refl
or_assoc (Err r) g h = refl

pub or-none : (f : Fault) → or_else f (Ok tt) ≡ f
or-none (Ok _) = refl
or-none (Err r) = refl
