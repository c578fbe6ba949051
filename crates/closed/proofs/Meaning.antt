-- What the answers to a closed list say of the published relation, whatever follows the list, and that each promise fixes its answer. From each
-- entry's promise it is said in Promise.antt. Assumes nothing.
use Rattle.std.specs.Prelude.{Ok}
use Rattle.refusals.specs.Given.{Answer, Fault}
use Prim.Native.Nat.{ℕ, ◌+◌, ◌*◌, ◌<◌}
use mathlib.Core.Path.{◌≡◌, refl, sym, ap, ◌∙◌}
use mathlib.Core.Bool.{Bool, true}
use mathlib.Core.Logic.{◌↔◌}
use mathlib.Core.List.{List}
use native.Mathlib.Omega.{arith}
use native.Mathlib.Nat.{mul-add-mod_self_right, mod-eq_of_lt}
use Rattle.ground.specs.Limits.{token_limit}
use Rattle.net.specs.Net.{Net, capacity, tokens}
use Rattle.net.specs.Firing.{Reachable}
use Rattle.net.proofs.Meaning.{reachable_has}
use Rattle.net.proofs.Rows.{row_at}
use Rattle.lists.specs.Whole.{count, marking_at}
use Rattle.lists.specs.declared.Failure.TheVariants.{InitialMissing, ResultMissing}
use Rattle.lists.specs.Answers.{numbers, claim_numbers}
use Rattle.lists.specs.declared.Kind.TheVariants.{Closed}
use Rattle.lists.specs.declared.ListAnswer.{ListAnswer}
use Rattle.lists.specs.declared.ListAnswer.TheVariants as list
use Rattle.lists.specs.declared.ClaimAnswer.{ClaimAnswer}
use Rattle.lists.proofs.Pairs.{accepted_looked, looked_accepted, looked_initial, looked_result, initial_looked, result_looked}
use Rattle.lists.proofs.Wholes.{marking_end, marking_small}
use Rattle.list_refusals.proofs.Exactly.{entries_few}
use Rattle.lists.proofs.Answers.{numbers_apart, claim_numbers_apart}
use Rattle.list_check.specs.Given.{given_fault, list_of, target_of}
use Rattle.list_check.specs.Allowed.{ListAllowed}
use Rattle.list_check.proofs.Exactly.{of_allowed}
use Rattle.list_check.proofs.Refusals.{lent_of, looked_sound, sound_looked}
use Rattle.closed.specs.Closed.{Listed, IsClosed, FirstMissing}
use Rattle.closed.specs.Stall.{stall_of}
use Rattle.closed.proofs.Listed.{of_listed, listed_of, unlisted_of, of_unlisted, holds_of, missing_of, of_holds, of_missing}

-- `Allowed` is what 01 asks of all that is lent: of a list alone (`true`, `Ok tt`), or of a list with a target (`fits`, `next`)
module _ (net : Net) (initial l : List ℕ) (fits : Bool) (next : Fault) {Allowed : Type 0} (sound : (given_fault Closed net initial l fits next ≡ Ok tt) ↔ Allowed) where
  pub accepted_is : (list_of Closed net initial l fits next ≡ Ok list.Accepted) ↔ (Allowed × IsClosed net initial l)
  accepted_is = (there, λ h. back (sound.1 h.0) h.1)
    where
      there : list_of Closed net initial l fits next ≡ Ok list.Accepted → Allowed × IsClosed net initial l
      there q =
          let a = looked_sound Closed net initial l fits next list.Accepted q in
          let g = lent_of Closed net initial l fits next a.0 in
          let k = looked_accepted _ _ _ _ a.1 in (
            sound.0 a.0,
            record {
              starts = listed_of net.places l initial g.ready.long g.start k.0;
              holds = λ j t h m' f. holds_of net l g.ready j h t (k.1 j t h f.named) m' f;
            },
          )

      back : given_fault Closed net initial l fits next ≡ Ok tt → IsClosed net initial l → list_of Closed net initial l fits next ≡ Ok list.Accepted
      back q c =
          let g = lent_of Closed net initial l fits next q in
          sound_looked Closed net initial l fits next list.Accepted q
          (accepted_looked _ _ _ _ (of_listed net.places l initial c.starts)
          (λ k t hk ht. of_holds net l g.ready k hk t (c.holds k t hk) ht))

  pub initial_missing_is : (list_of Closed net initial l fits next ≡ Ok (list.Failed InitialMissing)) ↔ (Allowed × (Listed net.places l initial → ⊥))
  initial_missing_is = (there, λ h. back (sound.1 h.0) h.1)
    where
      there : list_of Closed net initial l fits next ≡ Ok (list.Failed InitialMissing) → Allowed × (Listed net.places l initial → ⊥)
      there q =
          let a = looked_sound Closed net initial l fits next (list.Failed InitialMissing) q in
          (sound.0 a.0, unlisted_of net.places l initial (looked_initial _ _ _ _ a.1))

      back : given_fault Closed net initial l fits next ≡ Ok tt → (Listed net.places l initial → ⊥) → list_of Closed net initial l fits next ≡ Ok (list.Failed InitialMissing)
      back q h =
          let g = lent_of Closed net initial l fits next q in
          sound_looked Closed net initial l fits next (list.Failed InitialMissing) q (initial_looked _ _ _ _ (of_unlisted net.places l initial g.ready.long g.start h))

  pub result_missing_is : (k t : ℕ) → (list_of Closed net initial l fits next ≡ Ok (list.Failed (ResultMissing k t))) ↔ (Allowed × (Listed net.places l initial × FirstMissing net l k t))
  result_missing_is k t = (there, λ h. back (sound.1 h.0) h.1.0 h.1.1)
    where
      there : list_of Closed net initial l fits next ≡ Ok (list.Failed (ResultMissing k t)) → Allowed × (Listed net.places l initial × FirstMissing net l k t)
      there q =
          let a = looked_sound Closed net initial l fits next (list.Failed (ResultMissing k t)) q in
          let g = lent_of Closed net initial l fits next a.0 in
          let b = looked_result _ _ _ _ k t a.1 in
          let f = b.1 in
          let m = missing_of net l g.ready k f.inside t f.named f.missed in (
            sound.0 a.0,
            (
              listed_of net.places l initial g.ready.long g.start b.0,
              record {
                inside = f.inside;
                result = m.0;
                fires = m.1;
                absent = m.2;
                lower = λ u h. holds_of net l g.ready k f.inside u (f.lower u h);
                earlier = λ j u h m' x. holds_of net l g.ready j (omega (arith, f.inside)) u (f.earlier j u h x.named) m' x;
              },
            ),
          )

      back : given_fault Closed net initial l fits next ≡ Ok tt → Listed net.places l initial → FirstMissing net l k t → list_of Closed net initial l fits next ≡ Ok (list.Failed (ResultMissing k t))
      back q s f =
          let g = lent_of Closed net initial l fits next q in
          sound_looked Closed net initial l fits next (list.Failed (ResultMissing k t)) q
          (result_looked _ _ _ _ k t (of_listed net.places l initial s)
          (record {
            inside = f.inside;
            named = f.fires.named;
            missed = of_missing net l g.ready k f.inside t f.result f.fires f.absent;
            lower = λ u h. of_holds net l g.ready k f.inside u (f.lower u h) (omega (arith, f.fires.named));
            earlier = λ j u h hu. of_holds net l g.ready j (omega (arith, f.inside)) u (f.earlier j u h) hu;
          }))

-- "From an accepted list, a target not listed is never reached": every reachable marking is listed
pub closed_reaches : {net : Net} {initial l m : List ℕ} → IsClosed net initial l → Reachable net initial m → Listed net.places l m
closed_reaches {net} {initial} {l} {m} c r =
    reachable_has net (λ (x : List ℕ). Listed net.places l x) (λ x y t f h. c.holds h.number t h.inside y (rw h.is f)) r c.starts

-- a marking with more tokens than may be given is in no list that is allowed: results are never cut to 16 bits
pub large_absent : {net : Net} {initial l : List ℕ} (m : List ℕ) (p : ℕ) → ListAllowed Closed net initial l → token_limit < tokens m p → Listed net.places l m → ⊥
large_absent {net} {initial} {l} m p a h x =
    let g = lent_of Closed net initial l true (Ok tt) (of_allowed Closed net initial l a) in
    let s = marking_small net.places (count net.places l) l x.number g.ready.long x.inside token_limit (entries_few net.places net.caps l (g.entries refl)) in
    let e = ap (λ (y : List ℕ). tokens y p) x.is in
    omega (arith, s.at p)

-- nor is one above capacity
pub above_absent : {net : Net} {initial l : List ℕ} (m : List ℕ) (p : ℕ) → ListAllowed Closed net initial l → p < net.places → capacity net p < tokens m p → Listed net.places l m → ⊥
above_absent {net} {initial} {l} m p a hp h x =
    let g = lent_of Closed net initial l true (Ok tt) (of_allowed Closed net initial l a) in
    let e = ap (λ (y : List ℕ). tokens y p) (sym x.is) ∙ row_at net.places x.number l p hp in
    let i = marking_end net.places (count net.places l) l x.number g.ready.long x.inside in
    let w = rw (mul-add-mod_self_right x.number net.places p, mod-eq_of_lt hp) at ((g.entries refl).at (x.number * net.places + p) (omega arith)).within in
    omega arith

-- "Repeats are harmless": only which markings are listed counts
pub repeats_harmless : {net : Net} {initial l l' : List ℕ} → ((m : List ℕ) → Listed net.places l m ↔ Listed net.places l' m) → IsClosed net initial l → IsClosed net initial l'
repeats_harmless {net} {initial} {l} {l'} same c =
    record {
      starts = (same initial).0 c.starts;
      holds = λ k t h m' f.
          let x = (same (marking_at net.places l' k)).1 (record { number = k; inside = h; is = refl }) in
          (same m').0 (c.holds x.number t x.inside m' (rw x.is f));
    }

-- each promise fixes its answer
module _ (net : Net) (initial l : List ℕ) where
  pub unique_list : (r r' : Answer ListAnswer) → numbers r ≡ numbers (list_of Closed net initial l true (Ok tt)) → numbers r' ≡ numbers (list_of Closed net initial l true (Ok tt)) → r ≡ r'
  unique_list r r' p q = numbers_apart r r' (p ∙ sym q)

  pub unique_target : (m : List ℕ) (r r' : Answer ClaimAnswer) → claim_numbers r ≡ claim_numbers (target_of Closed net initial l m) → claim_numbers r' ≡ claim_numbers (target_of Closed net initial l m) → r ≡ r'
  unique_target m r r' p q = claim_numbers_apart r r' (p ∙ sym q)

  pub unique_stall : (r r' : Answer ClaimAnswer) → claim_numbers r ≡ claim_numbers (stall_of net initial l) → claim_numbers r' ≡ claim_numbers (stall_of net initial l) → r ≡ r'
  unique_stall r r' p q = claim_numbers_apart r r' (p ∙ sym q)
