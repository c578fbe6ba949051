-- Demand 2's sentences on cover lists, from each entry's promise: what is true of the net, over the published relation, exactly where the entry
-- has answered so. Assumes nothing.
use Rattle.std.specs.Prelude.{Ok}
use Prim.Native.Nat.{ℕ}
use mathlib.Core.Path.{◌≡◌}
use mathlib.Core.Bool.{true}
use mathlib.Core.List.{List}
use mathlib.Core.Logic.{◌↔◌}
use lib.ListN.{length}
use lib.Dec.{eqb}
use Rattle.net.specs.Net.{Net}
use Rattle.refusals.specs.Given.{Answer}
use Rattle.net.specs.Firing.{Reachable}
use Rattle.list_refusals.specs.Given.{target_fault}
use Rattle.lists.specs.Answers.{numbers, claim_numbers}
use Rattle.lists.specs.declared.Failure.TheVariants.{InitialMissing, ResultMissing}
use Rattle.lists.specs.declared.Kind.TheVariants.{Cover}
use Rattle.lists.specs.declared.ListAnswer.{ListAnswer}
use Rattle.lists.specs.declared.ListAnswer.TheVariants as list
use Rattle.lists.specs.declared.ClaimAnswer.{ClaimAnswer}
use Rattle.lists.specs.declared.ClaimAnswer.TheVariants as claim
use Rattle.lists.proofs.Answers.{numbers_apart, claim_numbers_apart, shown_is, open_is, failed_is}
use Rattle.list_check.specs.Given.{list_of, target_of}
use Rattle.list_check.specs.Allowed.{ListAllowed, TargetAllowed}
use Rattle.list_check.proofs.Exactly.{list_sound, target_sound}
use Rattle.cover.specs.Number.{marking}
use Rattle.cover.specs.Cover.{Coverable, ListCovers, IsCover, FirstMissing}
use Rattle.cover.proofs.Covered.{of_covered, covered_of, uncovered_of, of_uncovered}
use Rattle.cover.proofs.Meaning.{accepted_is, initial_missing_is, result_missing_is, covers_through, cover_covers}

-- `cover_list`
module _ (net : Net) (initial l : List ℕ) (r : Answer ListAnswer) (promise : numbers r ≡ numbers (list_of Cover net initial l true (Ok tt))) where
  list_is : r ≡ list_of Cover net initial l true (Ok tt)
  list_is = numbers_apart r (list_of Cover net initial l true (Ok tt)) promise

  -- accepted if it meets its definition, and only then
  pub accepted_exactly : (r ≡ Ok list.Accepted) ↔ (ListAllowed Cover net initial l × IsCover net initial l)
  accepted_exactly = rw list_is (accepted_is net initial l true (Ok tt) (list_sound Cover net initial l))

  -- every marking reachable in the net with its capacities is covered by a marking of an accepted list
  pub accepted_covers : r ≡ Ok list.Accepted → (m : List ℕ) → Reachable net initial m → ListCovers net.places l (marking m)
  accepted_covers e m f = cover_covers (accepted_exactly.0 e).1 f

  -- "A failure is named as for a closed list": initial missing
  pub initial_missing_exactly : (r ≡ Ok (list.Failed InitialMissing)) ↔ (ListAllowed Cover net initial l × (ListCovers net.places l (marking initial) → ⊥))
  initial_missing_exactly = rw list_is (initial_missing_is net initial l true (Ok tt) (list_sound Cover net initial l))

  -- else the first listed marking, and in it the lowest transition, whose result is not covered
  pub result_missing_exactly : (k t : ℕ) → (r ≡ Ok (list.Failed (ResultMissing k t))) ↔ (ListAllowed Cover net initial l × (ListCovers net.places l (marking initial) × FirstMissing net l k t))
  result_missing_exactly k t = rw list_is (result_missing_is net initial l true (Ok tt) (list_sound Cover net initial l) k t)

-- `cover_target`
module _ (net : Net) (initial l m : List ℕ) (r : Answer ClaimAnswer) (promise : claim_numbers r ≡ claim_numbers (target_of Cover net initial l m)) where
  target_is : r ≡ target_of Cover net initial l m
  target_is = claim_numbers_apart r (target_of Cover net initial l m) promise

  -- "a target that no listed marking covers is never covered": answered so of what is allowed, a cover list and not covered, and only then
  pub target_shown_exactly : (r ≡ Ok claim.Shown) ↔ (TargetAllowed Cover net initial l m × (IsCover net initial l × (ListCovers net.places l (marking m) → ⊥)))
  target_shown_exactly =
      rw target_is
      (shown_is _ _ (accepted_is net initial l (eqb (length m) net.places) (target_fault m) (target_sound Cover net initial l m))
      (λ a. (uncovered_of net.places l m a.long, of_uncovered net.places l m a.long)))

  -- and then it is so: no reachable marking covers it
  pub shown_never_covered : r ≡ Ok claim.Shown → Coverable net initial m → ⊥
  shown_never_covered e x =
      let h = target_shown_exactly.0 e in
      let y = cover_covers h.1.0 x.reachable in
      h.1.1 (record { number = y.number; inside = y.inside; covers = covers_through y.covers x.covers })

  -- "any other is answered as not shown", and only such
  pub target_open_exactly : (r ≡ Ok claim.NotShown) ↔ (TargetAllowed Cover net initial l m × (IsCover net initial l × ListCovers net.places l (marking m)))
  target_open_exactly =
      rw target_is
      (open_is _ _ (accepted_is net initial l (eqb (length m) net.places) (target_fault m) (target_sound Cover net initial l m))
      (λ a. (covered_of net.places l m a.long, of_covered net.places l m a.long)))

  -- a list that is no cover list answers by its failure
  pub target_initial_missing_exactly : (r ≡ Ok (claim.Failed InitialMissing)) ↔ (TargetAllowed Cover net initial l m × (ListCovers net.places l (marking initial) → ⊥))
  target_initial_missing_exactly = rw target_is (failed_is _ _ InitialMissing (initial_missing_is net initial l (eqb (length m) net.places) (target_fault m) (target_sound Cover net initial l m)))

  pub target_result_missing_exactly : (k t : ℕ) → (r ≡ Ok (claim.Failed (ResultMissing k t))) ↔ (TargetAllowed Cover net initial l m × (ListCovers net.places l (marking initial) × FirstMissing net l k t))
  target_result_missing_exactly k t = rw target_is (failed_is _ _ (ResultMissing k t) (result_missing_is net initial l (eqb (length m) net.places) (target_fault m) (target_sound Cover net initial l m) k t))
