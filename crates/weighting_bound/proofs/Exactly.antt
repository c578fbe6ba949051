-- "Given exactly when": what is allowed is answered, what is answered is allowed, and each refusal is the one of the first demand that does not hold.
-- Each is said of whatever keeps the entry's promise. Assumes nothing.
use Rattle.refusals.specs.Given.{Answer, refused}
use Prim.Native.Nat.{ℕ}
use mathlib.Core.Path.{◌≡◌}
use mathlib.Core.Logic.{◌↔◌}
use mathlib.Core.List.{List}
use lib.IntN.{ℤ}
use Rattle.net.specs.Net.{Net}
use Rattle.refusals.proofs.Exactly.{Answers, answers_ok, exactly_refused, is_answered, is_allowed}
use Rattle.weighting_bound.specs.Bound.{bound_fault, found_bound, bound_of, bound_numbers}
use Rattle.weighting_bound.specs.Allowed.{BoundAllowed, BoundRefusal}
use Rattle.weighting_bound.specs.declared.Bound.{Bound}
use Rattle.weighting_bound.proofs.Numbers.{bound_numbers_apart}
use Rattle.weighting_bound.proofs.Allowed.{bound_allowed_of, of_bound_allowed, bound_chain}

module _ (net : Net) (initial : List ℕ) (y : List ℤ) (p : ℕ) (r : Answer Bound) (promise : bound_numbers r ≡ bound_numbers (bound_of net initial y p)) where
  bound_made : Answers (bound_fault net initial y p) r
  bound_made = answers_ok (bound_fault net initial y p) (found_bound net initial y p) r (bound_numbers_apart r (bound_of net initial y p) promise)

  pub bound_allowed_answered : BoundAllowed net initial y p → (n at : ℕ) → r ≡ refused n at → ⊥
  bound_allowed_answered = is_answered bound_made (of_bound_allowed net initial y p)

  pub bound_answered_allowed : ((n at : ℕ) → r ≡ refused n at → ⊥) → BoundAllowed net initial y p
  bound_answered_allowed = is_allowed bound_made (bound_allowed_of net initial y p)

  pub bound_refused_exactly : (n at : ℕ) → (r ≡ refused n at) ↔ BoundRefusal net initial y p n at
  bound_refused_exactly = exactly_refused bound_made (bound_chain net initial y p)
