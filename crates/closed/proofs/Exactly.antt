-- "Exactly when" for the three entries: what is allowed is answered, what is answered was allowed, and a refusal's number and position
-- are given exactly as 01's table says, demand by demand. Assumes nothing.
use Rattle.std.specs.Prelude.{Ok}
use Prim.Native.Nat.{ℕ}
use mathlib.Core.Path.{◌≡◌}
use mathlib.Core.Bool.{true}
use mathlib.Core.List.{List}
use mathlib.Core.Logic.{◌↔◌}
use Rattle.net.specs.Net.{Net}
use Rattle.refusals.specs.Given.{Answer, refused}
use Rattle.lists.specs.Answers.{numbers, claim_numbers}
use Rattle.lists.specs.declared.Kind.TheVariants.{Closed}
use Rattle.lists.specs.declared.ListAnswer.{ListAnswer}
use Rattle.lists.specs.declared.ClaimAnswer.{ClaimAnswer}
use Rattle.lists.proofs.Answers.{numbers_apart, claim_numbers_apart}
use Rattle.list_check.specs.Given.{list_of, target_of}
use Rattle.list_check.specs.Allowed.{ListAllowed, ListRefused, TargetAllowed, TargetRefused}
use Rattle.list_check.proofs.Exactly.{Exact, list_exact, claim_exact, target_exact}
use Rattle.closed.specs.Stall.{stall_of}

-- closed_list: any answer that keeps its promise
module _ (net : Net) (initial l : List ℕ) (r : Answer ListAnswer) (p : numbers r ≡ numbers (list_of Closed net initial l true (Ok tt))) where
  list_told : Exact r (ListAllowed Closed net initial l) (ListRefused Closed net initial l)
  list_told = rw (numbers_apart r (list_of Closed net initial l true (Ok tt)) p) (list_exact Closed net initial l)

  pub list_allowed_answered : ListAllowed Closed net initial l → (n at : ℕ) → r ≡ refused n at → ⊥
  list_allowed_answered = list_told.allowed_answered

  pub list_answered_allowed : ((n at : ℕ) → r ≡ refused n at → ⊥) → ListAllowed Closed net initial l
  list_answered_allowed = list_told.answered_allowed

  pub list_refused_exactly : (n at : ℕ) → (r ≡ refused n at) ↔ ListRefused Closed net initial l n at
  list_refused_exactly = list_told.refused_exactly

-- closed_target
module _ (net : Net) (initial l m : List ℕ) (r : Answer ClaimAnswer) (p : claim_numbers r ≡ claim_numbers (target_of Closed net initial l m)) where
  target_told : Exact r (TargetAllowed Closed net initial l m) (TargetRefused Closed net initial l m)
  target_told = rw (claim_numbers_apart r (target_of Closed net initial l m) p) (target_exact Closed net initial l m)

  pub target_allowed_answered : TargetAllowed Closed net initial l m → (n at : ℕ) → r ≡ refused n at → ⊥
  target_allowed_answered = target_told.allowed_answered

  pub target_answered_allowed : ((n at : ℕ) → r ≡ refused n at → ⊥) → TargetAllowed Closed net initial l m
  target_answered_allowed = target_told.answered_allowed

  pub target_refused_exactly : (n at : ℕ) → (r ≡ refused n at) ↔ TargetRefused Closed net initial l m n at
  target_refused_exactly = target_told.refused_exactly

-- closed_stall
module _ (net : Net) (initial l : List ℕ) (r : Answer ClaimAnswer) (p : claim_numbers r ≡ claim_numbers (stall_of net initial l)) where
  stall_told : Exact r (ListAllowed Closed net initial l) (ListRefused Closed net initial l)
  stall_told = rw (claim_numbers_apart r (stall_of net initial l) p) (claim_exact Closed net initial l _)

  pub stall_allowed_answered : ListAllowed Closed net initial l → (n at : ℕ) → r ≡ refused n at → ⊥
  stall_allowed_answered = stall_told.allowed_answered

  pub stall_answered_allowed : ((n at : ℕ) → r ≡ refused n at → ⊥) → ListAllowed Closed net initial l
  stall_answered_allowed = stall_told.answered_allowed

  pub stall_refused_exactly : (n at : ℕ) → (r ≡ refused n at) ↔ ListRefused Closed net initial l n at
  stall_refused_exactly = stall_told.refused_exactly
