-- Demand 2's sentences on closed lists, from each entry's promise: what is true of the net, over the published relation, exactly where the entry
-- has answered so. Assumes nothing.
use Rattle.std.specs.Prelude.{Ok}
use Prim.Native.Nat.{ℕ, ◌<◌}
use mathlib.Core.Path.{◌≡◌}
use mathlib.Core.Bool.{true}
use mathlib.Core.List.{List}
use mathlib.Core.Logic.{◌↔◌}
use lib.ListN.{length}
use lib.Dec.{eqb}
use Rattle.net.specs.Net.{Net, capacity, tokens}
use Rattle.refusals.specs.Given.{Answer}
use Rattle.net.specs.Firing.{Enabled, Reachable}
use Rattle.lists.specs.Whole.{count}
use Rattle.list_refusals.specs.Given.{target_fault}
use Rattle.lists.specs.Answers.{numbers, claim_numbers}
use Rattle.lists.specs.declared.Failure.TheVariants.{InitialMissing, ResultMissing}
use Rattle.lists.specs.declared.Kind.TheVariants.{Closed}
use Rattle.lists.specs.declared.ListAnswer.{ListAnswer}
use Rattle.lists.specs.declared.ListAnswer.TheVariants as list
use Rattle.lists.specs.declared.ClaimAnswer.{ClaimAnswer}
use Rattle.lists.specs.declared.ClaimAnswer.TheVariants as claim
use Rattle.lists.proofs.Answers.{numbers_apart, claim_numbers_apart, shown_is, open_is, failed_is}
use Rattle.list_pairs.specs.Look.{Ready}
use Rattle.list_check.specs.Given.{list_of, target_of}
use Rattle.list_check.specs.Allowed.{ListAllowed, TargetAllowed}
use Rattle.list_check.proofs.Exactly.{list_sound, target_sound}
use Rattle.list_check.proofs.Refusals.{lent_of}
use Rattle.closed.specs.Closed.{Listed, IsClosed, FirstMissing, AllEnable, DeadListed}
use Rattle.closed.specs.Stall.{stall_of}
use Rattle.closed.proofs.Listed.{of_listed, listed_of, unlisted_of, of_unlisted, all_enable, dead_of, of_dead, of_enabling}
use Rattle.closed.proofs.Meaning.{accepted_is, initial_missing_is, result_missing_is, closed_reaches, above_absent}

-- what is allowed is lent as the laws ask
list_ready : (net : Net) (initial l : List ℕ) → ListAllowed Closed net initial l → Ready net (count net.places l) l
list_ready net initial l a = (lent_of Closed net initial l true (Ok tt) ((list_sound Closed net initial l).1 a)).ready

-- `closed_list`
module _ (net : Net) (initial l : List ℕ) (r : Answer ListAnswer) (promise : numbers r ≡ numbers (list_of Closed net initial l true (Ok tt))) where
  list_is : r ≡ list_of Closed net initial l true (Ok tt)
  list_is = numbers_apart r (list_of Closed net initial l true (Ok tt)) promise

  -- accepted if it meets its definition, and only then
  pub accepted_exactly : (r ≡ Ok list.Accepted) ↔ (ListAllowed Closed net initial l × IsClosed net initial l)
  accepted_exactly = rw list_is (accepted_is net initial l true (Ok tt) (list_sound Closed net initial l))

  -- a marking missing from an accepted list is never met from the initial marking
  pub accepted_never_reached : r ≡ Ok list.Accepted → (m : List ℕ) → (Listed net.places l m → ⊥) → Reachable net initial m → ⊥
  accepted_never_reached e m h f = h (closed_reaches (accepted_exactly.0 e).1 f)

  -- "A failure is: initial missing"
  pub initial_missing_exactly : (r ≡ Ok (list.Failed InitialMissing)) ↔ (ListAllowed Closed net initial l × (Listed net.places l initial → ⊥))
  initial_missing_exactly = rw list_is (initial_missing_is net initial l true (Ok tt) (list_sound Closed net initial l))

  -- "else the first listed marking, and in it the lowest transition, whose result is absent"
  pub result_missing_exactly : (k t : ℕ) → (r ≡ Ok (list.Failed (ResultMissing k t))) ↔ (ListAllowed Closed net initial l × (Listed net.places l initial × FirstMissing net l k t))
  result_missing_exactly k t = rw list_is (result_missing_is net initial l true (Ok tt) (list_sound Closed net initial l) k t)

-- `closed_target`
module _ (net : Net) (initial l m : List ℕ) (r : Answer ClaimAnswer) (promise : claim_numbers r ≡ claim_numbers (target_of Closed net initial l m)) where
  target_is : r ≡ target_of Closed net initial l m
  target_is = claim_numbers_apart r (target_of Closed net initial l m) promise

  -- "From an accepted list, a target not listed is never reached": answered so of what is allowed, closed and not listed, and only then
  pub target_shown_exactly : (r ≡ Ok claim.Shown) ↔ (TargetAllowed Closed net initial l m × (IsClosed net initial l × (Listed net.places l m → ⊥)))
  target_shown_exactly =
      rw target_is
      (shown_is _ _ (accepted_is net initial l (eqb (length m) net.places) (target_fault m) (target_sound Closed net initial l m))
      (λ a. (unlisted_of net.places l m, of_unlisted net.places l m (list_ready net initial l a.listed).long a.long)))

  -- and then it is so
  pub shown_never_reached : r ≡ Ok claim.Shown → Reachable net initial m → ⊥
  shown_never_reached e f = let h = target_shown_exactly.0 e in h.1.1 (closed_reaches h.1.0 f)

  -- "a listed target is answered as not shown", and no other is
  pub target_open_exactly : (r ≡ Ok claim.NotShown) ↔ (TargetAllowed Closed net initial l m × (IsClosed net initial l × Listed net.places l m))
  target_open_exactly =
      rw target_is
      (open_is _ _ (accepted_is net initial l (eqb (length m) net.places) (target_fault m) (target_sound Closed net initial l m))
      (λ a. (listed_of net.places l m (list_ready net initial l a.listed).long a.long, of_listed net.places l m)))

  -- a list that is not closed answers by its failure
  pub target_initial_missing_exactly : (r ≡ Ok (claim.Failed InitialMissing)) ↔ (TargetAllowed Closed net initial l m × (Listed net.places l initial → ⊥))
  target_initial_missing_exactly = rw target_is (failed_is _ _ InitialMissing (initial_missing_is net initial l (eqb (length m) net.places) (target_fault m) (target_sound Closed net initial l m)))

  pub target_result_missing_exactly : (k t : ℕ) → (r ≡ Ok (claim.Failed (ResultMissing k t))) ↔ (TargetAllowed Closed net initial l m × (Listed net.places l initial × FirstMissing net l k t))
  target_result_missing_exactly k t = rw target_is (failed_is _ _ (ResultMissing k t) (result_missing_is net initial l (eqb (length m) net.places) (target_fault m) (target_sound Closed net initial l m) k t))

  -- a target above capacity may be asked, and is shown to be never reached
  pub above_capacity_shown : TargetAllowed Closed net initial l m → IsClosed net initial l → (p : ℕ) → p < net.places → capacity net p < tokens m p → r ≡ Ok claim.Shown
  above_capacity_shown a c p hp h = target_shown_exactly.1 (a, (c, above_absent m p a.listed hp h))

-- `closed_stall`
module _ (net : Net) (initial l : List ℕ) (r : Answer ClaimAnswer) (promise : claim_numbers r ≡ claim_numbers (stall_of net initial l)) where
  stall_is : r ≡ stall_of net initial l
  stall_is = claim_numbers_apart r (stall_of net initial l) promise

  -- "If every listed marking enables something, the line never stalls": answered so of what is allowed, closed and enabling, and only then
  pub stall_shown_exactly : (r ≡ Ok claim.Shown) ↔ (ListAllowed Closed net initial l × (IsClosed net initial l × AllEnable net l))
  stall_shown_exactly =
      rw stall_is
      (shown_is _ _ (accepted_is net initial l true (Ok tt) (list_sound Closed net initial l))
      (λ a. (all_enable net l (list_ready net initial l a), of_enabling net l (list_ready net initial l a))))

  -- and then it is so: every reachable marking enables a transition
  pub shown_never_stalls : r ≡ Ok claim.Shown → (m : List ℕ) → Reachable net initial m → (t : ℕ) × (t < net.transitions) × Enabled net m t
  shown_never_stalls e m f =
      let h = stall_shown_exactly.0 e in
      let x = closed_reaches h.1.0 f in
      let a = h.1.1 in
      (a.transition x.number, a.named x.number x.inside, rw x.is at (a.enabled x.number x.inside))

  -- "otherwise not shown": exactly where a listed marking of an allowed and closed list is dead
  pub stall_open_exactly : (r ≡ Ok claim.NotShown) ↔ (ListAllowed Closed net initial l × (IsClosed net initial l × DeadListed net l))
  stall_open_exactly =
      rw stall_is
      (open_is _ _ (accepted_is net initial l true (Ok tt) (list_sound Closed net initial l))
      (λ a. (dead_of net l (list_ready net initial l a), of_dead net l (list_ready net initial l a))))

  -- a list that is not closed answers by its failure
  pub stall_initial_missing_exactly : (r ≡ Ok (claim.Failed InitialMissing)) ↔ (ListAllowed Closed net initial l × (Listed net.places l initial → ⊥))
  stall_initial_missing_exactly = rw stall_is (failed_is _ _ InitialMissing (initial_missing_is net initial l true (Ok tt) (list_sound Closed net initial l)))

  pub stall_result_missing_exactly : (k t : ℕ) → (r ≡ Ok (claim.Failed (ResultMissing k t))) ↔ (ListAllowed Closed net initial l × (Listed net.places l initial × FirstMissing net l k t))
  stall_result_missing_exactly k t = rw stall_is (failed_is _ _ (ResultMissing k t) (result_missing_is net initial l true (Ok tt) (list_sound Closed net initial l) k t))
