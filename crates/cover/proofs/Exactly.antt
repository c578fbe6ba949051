-- "Exactly when" for the two entries: what is allowed is answered, what is answered was allowed, and a refusal's number and position
-- are given exactly as 01's table says, demand by demand. Assumes nothing.
use Rattle.std.specs.Prelude.{Ok}
use Prim.Native.Nat.{ℕ}
use mathlib.Core.Path.{◌≡◌}
use mathlib.Core.Bool.{true}
use mathlib.Core.List.{List}
use mathlib.Core.Logic.{◌↔◌}
use Rattle.net.specs.Net.{Net}
use Rattle.refusals.specs.Given.{Answer, refused}
use Rattle.lists.specs.Answers.{numbers, claim_numbers}
use Rattle.lists.specs.declared.Kind.TheVariants.{Cover}
use Rattle.lists.specs.declared.ListAnswer.{ListAnswer}
use Rattle.lists.specs.declared.ClaimAnswer.{ClaimAnswer}
use Rattle.lists.proofs.Answers.{numbers_apart, claim_numbers_apart}
use Rattle.list_check.specs.Given.{list_of, target_of}
use Rattle.list_check.specs.Allowed.{ListAllowed, ListRefused, TargetAllowed, TargetRefused}
use Rattle.list_check.proofs.Exactly.{Exact, list_exact, target_exact}

-- cover_list: any answer that keeps its promise
module _ (net : Net) (initial l : List ℕ) (r : Answer ListAnswer) (p : numbers r ≡ numbers (list_of Cover net initial l true (Ok tt))) where
  list_told : Exact r (ListAllowed Cover net initial l) (ListRefused Cover net initial l)
  list_told = rw (numbers_apart r (list_of Cover net initial l true (Ok tt)) p) (list_exact Cover net initial l)

  pub list_allowed_answered : ListAllowed Cover net initial l → (n at : ℕ) → r ≡ refused n at → ⊥
  list_allowed_answered = list_told.allowed_answered

  pub list_answered_allowed : ((n at : ℕ) → r ≡ refused n at → ⊥) → ListAllowed Cover net initial l
  list_answered_allowed = list_told.answered_allowed

  pub list_refused_exactly : (n at : ℕ) → (r ≡ refused n at) ↔ ListRefused Cover net initial l n at
  list_refused_exactly = list_told.refused_exactly

-- cover_target
module _ (net : Net) (initial l m : List ℕ) (r : Answer ClaimAnswer) (p : claim_numbers r ≡ claim_numbers (target_of Cover net initial l m)) where
  target_told : Exact r (TargetAllowed Cover net initial l m) (TargetRefused Cover net initial l m)
  target_told = rw (claim_numbers_apart r (target_of Cover net initial l m) p) (target_exact Cover net initial l m)

  pub target_allowed_answered : TargetAllowed Cover net initial l m → (n at : ℕ) → r ≡ refused n at → ⊥
  target_allowed_answered = target_told.allowed_answered

  pub target_answered_allowed : ((n at : ℕ) → r ≡ refused n at → ⊥) → TargetAllowed Cover net initial l m
  target_answered_allowed = target_told.answered_allowed

  pub target_refused_exactly : (n at : ℕ) → (r ≡ refused n at) ↔ TargetRefused Cover net initial l m n at
  target_refused_exactly = target_told.refused_exactly
