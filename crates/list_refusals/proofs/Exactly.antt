-- "Exactly when" for a list and a target: each refusal is read as its demand (specs/Demands.antt), and nothing is refused exactly
-- where the demand holds. Assumes nothing.
use Rattle.std.specs.Prelude.{Ok, Err}
use Rattle.refusals.specs.Given.{Fault}
use Prim.Native.Nat.{ℕ, ◌%◌, ◌≤◌, ◌<◌, zero-le}
use mathlib.Core.Path.{◌≡◌, refl, sym, ◌∙◌}
use mathlib.Core.Bool.{true, false, ◌||◌}
use mathlib.Core.List.{List}
use native.Mathlib.Omega.{arith}
use native.Mathlib.Nat.{mul-mod_left}
use native.Mathlib.Decide.{dec_lt}
use lib.ListN.{length, get_or, get_or-eq_default}
use lib.Dec.{ltb, eqb}
use borrow.Author.Tests.{le-ltb, ltb-true, ltb-false, eq-eqb}
use Rattle.ground.specs.Limits.{token_limit, list_limit}
use Rattle.ground.proofs.Tests.{and-true, or-false, both_false}
use Rattle.net.specs.Letter.{Small}
use Rattle.refusals.specs.Given.{token_bad}
use Rattle.refusals.specs.First.{Given, GivenAt}
use Rattle.refusals.proofs.Exactly.{Tells, tells_as, tells_test, tells_scan, Reads, reads_test}
use Rattle.lists.specs.declared.Kind.{Kind}
use Rattle.lists.specs.declared.Kind.TheVariants.{Closed, Cover}
use Rattle.lists.specs.Whole.{count}
use Rattle.list_refusals.specs.Given.{whole, first_bad, entry_fault, target_fault, size_fault}
use Rattle.list_refusals.specs.Demands.{WholeMarkings, EntryFine, EntriesFine, TargetFine, SomeMarkings, EntriesFirst, TargetFirst, SizeFirst}
use Rattle.list_refusals.proofs.Wholes.{whole_some, whole_long}

-- a fault that tells of its demand is none where the demand holds
tells_back : {f : Fault} {D : Type 0} {Tell : ℕ → ℕ → Type 0} → Tells f D Tell → D → f ≡ Ok tt
tells_back {f} t d = go f refl
  where
    go : (x : Fault) → f ≡ x → f ≡ Ok tt
    go (Ok _) e = e
    go (Err r) e = absurd ((t.fails r.number r.at e).0 d)

-- nothing is asked: what comes next decides
pub none_reads : Reads (Ok tt) (λ n at Next. Next)
none_reads = record { then = λ g Next c. c }

-- 2: the list's length
module _ (P : ℕ) (list : List ℕ) where
  pub markings_of : whole P list ≡ true → WholeMarkings P list
  markings_of e =
      record {
        some_places = ltb-true 0 P (and-true (ltb 0 P) (eqb (length list % P) 0) e).0;
        number = count P list;
        long = whole_long P list e;
      }

  pub of_markings : WholeMarkings P list → whole P list ≡ true
  of_markings w = sym (whole_some P list w.some_places) ∙ eq-eqb (length list % P) 0 (rw w.long (mul-mod_left w.number P))

-- 3: the entries of a closed list
module _ (P : ℕ) (caps list : List ℕ) where
  entry_of : (k : ℕ) → token_bad (get_or caps (k % P) 0) (get_or list k 0) ≡ false → EntryFine P caps list k
  entry_of k e =
      let a = or-false (ltb token_limit (get_or list k 0)) (ltb (get_or caps (k % P) 0) (get_or list k 0)) e in
      record { few = ltb-false _ _ a.0; within = ltb-false _ _ a.1 }

  of_entry : (k : ℕ) → EntryFine P caps list k → token_bad (get_or caps (k % P) 0) (get_or list k 0) ≡ false
  of_entry k f = both_false _ _ (le-ltb token_limit (get_or list k 0) f.few) (le-ltb (get_or caps (k % P) 0) (get_or list k 0) f.within)

  entries_tell : Tells (entry_fault Closed P caps list) (EntriesFine P caps list) (GivenAt 3 (EntryFine P caps list) (length list))
  unfolding entry_fault first_bad
  entries_tell =
      tells_as (λ h. record { at = h }) (λ (f : EntriesFine P caps list). f.at)
      (tells_scan (λ k. token_bad (get_or caps (k % P) 0) (get_or list k 0)) (length list) 3 {D = EntryFine P caps list} entry_of of_entry)

  -- a cover list's are free
  entries_free : entry_fault Cover P caps list ≡ Ok tt
  unfolding entry_fault first_bad
  entries_free = rw (le-ltb (length list) (length list) (omega arith))

pub entries_of : (kind : Kind) (P : ℕ) (caps list : List ℕ) → entry_fault kind P caps list ≡ Ok tt → kind ≡ Closed → EntriesFine P caps list
entries_of kind P caps list e q = (entries_tell P caps list).sound (rw q at e)

pub of_entries : (kind : Kind) (P : ℕ) (caps list : List ℕ) → (kind ≡ Closed → EntriesFine P caps list) → entry_fault kind P caps list ≡ Ok tt
of_entries Closed P caps list f = tells_back (entries_tell P caps list) (f refl)
of_entries Cover P caps list f = entries_free P caps list

pub entries_reads : (kind : Kind) (P : ℕ) (caps list : List ℕ) → Reads (entry_fault kind P caps list) (λ n at Next. EntriesFirst kind P caps list n at Next)
entries_reads Closed P caps list = reads_test (entries_tell P caps list)
entries_reads Cover P caps list = rw (entries_free P caps list) none_reads

-- no entry is above the limit, past the list's end too
pub entries_few : (P : ℕ) (caps list : List ℕ) → EntriesFine P caps list → Small token_limit list
entries_few P caps list f = record { at = λ k. go k (dec_lt k (length list)) }
  where
    go : (k : ℕ) → Dec (k < length list) → get_or list k 0 ≤ token_limit
    go k (yes h) = (f.at k h).few
    go k (no n) = rw (get_or-eq_default list 0 {n = k} (omega arith)) zero-le

-- 3: a target
module _ (target : List ℕ) where
  target_tells : Tells (target_fault target) (TargetFine target) (GivenAt 3 (λ p. get_or target p 0 ≤ token_limit) (length target))
  unfolding target_fault
  target_tells =
      tells_as (λ h. record { at = h }) (λ (f : TargetFine target). f.at)
      (tells_scan (λ p. ltb token_limit (get_or target p 0)) (length target) 3 {D = λ p. get_or target p 0 ≤ token_limit} (λ p e. ltb-false _ _ e) (λ p h. le-ltb token_limit (get_or target p 0) h))

  pub target_of_lem : target_fault target ≡ Ok tt → TargetFine target
  target_of_lem e = target_tells.sound e

  pub of_target_lem : TargetFine target → target_fault target ≡ Ok tt
  of_target_lem f = tells_back target_tells f

  pub target_reads : Reads (target_fault target) (TargetFirst target)
  target_reads = reads_test target_tells

-- 9: how many markings
module _ (P : ℕ) (list : List ℕ) where
  size_tells : Tells (size_fault P list) (SomeMarkings P list) (Given 9 0)
  unfolding size_fault
  size_tells = tells_test _ 9 0 there back
    where
      there : (ltb (count P list) 1 || ltb list_limit (count P list)) ≡ false → SomeMarkings P list
      there e =
          let a = or-false (ltb (count P list) 1) (ltb list_limit (count P list)) e in
          record { some = ltb-false (count P list) 1 a.0; many = ltb-false list_limit (count P list) a.1 }

      back : SomeMarkings P list → (ltb (count P list) 1 || ltb list_limit (count P list)) ≡ false
      back s = both_false _ _ (le-ltb (count P list) 1 s.some) (le-ltb list_limit (count P list) s.many)

  pub size_of : size_fault P list ≡ Ok tt → SomeMarkings P list
  size_of e = size_tells.sound e

  pub of_size : SomeMarkings P list → size_fault P list ≡ Ok tt
  of_size s = tells_back size_tells s

  pub size_reads : Reads (size_fault P list) (SizeFirst P list)
  size_reads = reads_test size_tells
