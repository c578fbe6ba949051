-- What the answers to a cover list say of the published relation, whatever follows the list, and that each promise fixes its answer. From each
-- entry's promise it is said in Promise.antt. Assumes nothing.
use Rattle.std.specs.Prelude.{Ok}
use Rattle.refusals.specs.Given.{Answer, Fault}
use Prim.Native.Nat.{ℕ, ◌+◌, ◌-◌, ◌≤◌, ◌<◌}
use mathlib.Core.Path.{◌≡◌, sym, ap, ◌∙◌}
use mathlib.Core.Bool.{Bool, true}
use mathlib.Core.List.{List}
use mathlib.Core.Logic.{◌↔◌}
use native.Mathlib.Omega.{arith}
use Rattle.net.specs.Net.{Net, Pre, Post, tokens}
use Rattle.net.specs.Firing as firing
use Rattle.net.specs.Firing.{Gives, Firing, Reachable}
use Rattle.net.proofs.Meaning.{gives_plain, reachable_has}
use Rattle.lists.specs.Whole.{marking_at}
use Rattle.lists.specs.Answers.{numbers, claim_numbers}
use Rattle.lists.specs.declared.Failure.TheVariants.{InitialMissing, ResultMissing}
use Rattle.lists.specs.declared.Kind.TheVariants.{Cover}
use Rattle.lists.specs.declared.ListAnswer.{ListAnswer}
use Rattle.lists.specs.declared.ListAnswer.TheVariants as list
use Rattle.lists.specs.declared.ClaimAnswer.{ClaimAnswer}
use Rattle.lists.proofs.Pairs.{accepted_looked, looked_accepted, looked_initial, looked_result, initial_looked, result_looked}
use Rattle.lists.proofs.Answers.{numbers_apart, claim_numbers_apart}
use Rattle.list_check.specs.Given.{given_fault, list_of, target_of}
use Rattle.list_check.proofs.Refusals.{lent_of, looked_sound, sound_looked}
use Rattle.cover.specs.Number.{Number, nat, any, listed, marking, CoversAt, CoversMarking, after}
use Rattle.cover.specs.Cover.{CoverEnabled, result_at, ListCovers, EnabledAt, IsCover, FirstMissing}
use Rattle.cover.proofs.Covered.{of_covered, covered_of, uncovered_of, of_uncovered, holds_of, missing_of, of_holds, of_missing}

-- `Allowed` is what 01 asks of all that is lent: of a list alone (`true`, `Ok tt`), or of a list with a target (`fits`, `next`)
module _ (net : Net) (initial l : List ℕ) (fits : Bool) (next : Fault) {Allowed : Type 0} (sound : (given_fault Cover net initial l fits next ≡ Ok tt) ↔ Allowed) where
  pub accepted_is : (list_of Cover net initial l fits next ≡ Ok list.Accepted) ↔ (Allowed × IsCover net initial l)
  accepted_is = (there, λ h. back (sound.1 h.0) h.1)
    where
      there : list_of Cover net initial l fits next ≡ Ok list.Accepted → Allowed × IsCover net initial l
      there q =
          let a = looked_sound Cover net initial l fits next list.Accepted q in
          let g = lent_of Cover net initial l fits next a.0 in
          let k = looked_accepted _ _ _ _ a.1 in (
            sound.0 a.0,
            record {
              starts = covered_of net.places l initial g.start k.0;
              holds = λ j t h x. holds_of net l g.ready j h t (k.1 j t h x.named) x;
            },
          )

      back : given_fault Cover net initial l fits next ≡ Ok tt → IsCover net initial l → list_of Cover net initial l fits next ≡ Ok list.Accepted
      back q c =
          let g = lent_of Cover net initial l fits next q in
          sound_looked Cover net initial l fits next list.Accepted q
          (accepted_looked _ _ _ _ (of_covered net.places l initial g.start c.starts)
          (λ k t hk ht. of_holds net l g.ready k hk t (c.holds k t hk) ht))

  pub initial_missing_is : (list_of Cover net initial l fits next ≡ Ok (list.Failed InitialMissing)) ↔ (Allowed × (ListCovers net.places l (marking initial) → ⊥))
  initial_missing_is = (there, λ h. back (sound.1 h.0) h.1)
    where
      there : list_of Cover net initial l fits next ≡ Ok (list.Failed InitialMissing) → Allowed × (ListCovers net.places l (marking initial) → ⊥)
      there q =
          let a = looked_sound Cover net initial l fits next (list.Failed InitialMissing) q in
          (sound.0 a.0, uncovered_of net.places l initial (lent_of Cover net initial l fits next a.0).start (looked_initial _ _ _ _ a.1))

      back : given_fault Cover net initial l fits next ≡ Ok tt → (ListCovers net.places l (marking initial) → ⊥) → list_of Cover net initial l fits next ≡ Ok (list.Failed InitialMissing)
      back q h = sound_looked Cover net initial l fits next (list.Failed InitialMissing) q (initial_looked _ _ _ _ (of_uncovered net.places l initial (lent_of Cover net initial l fits next q).start h))

  pub result_missing_is : (k t : ℕ) → (list_of Cover net initial l fits next ≡ Ok (list.Failed (ResultMissing k t))) ↔ (Allowed × (ListCovers net.places l (marking initial) × FirstMissing net l k t))
  result_missing_is k t = (there, λ h. back (sound.1 h.0) h.1.0 h.1.1)
    where
      there : list_of Cover net initial l fits next ≡ Ok (list.Failed (ResultMissing k t)) → Allowed × (ListCovers net.places l (marking initial) × FirstMissing net l k t)
      there q =
          let a = looked_sound Cover net initial l fits next (list.Failed (ResultMissing k t)) q in
          let g = lent_of Cover net initial l fits next a.0 in
          let b = looked_result _ _ _ _ k t a.1 in
          let f = b.1 in
          let m = missing_of net l g.ready k f.inside t f.named f.missed in (
            sound.0 a.0,
            (
              covered_of net.places l initial g.start b.0,
              record {
                inside = f.inside;
                able = m.0;
                uncovered = m.1;
                lower = λ u h. holds_of net l g.ready k f.inside u (f.lower u h);
                earlier = λ j u h x. holds_of net l g.ready j (omega (arith, f.inside)) u (f.earlier j u h x.named) x;
              },
            ),
          )

      back : given_fault Cover net initial l fits next ≡ Ok tt → ListCovers net.places l (marking initial) → FirstMissing net l k t → list_of Cover net initial l fits next ≡ Ok (list.Failed (ResultMissing k t))
      back q s f =
          let g = lent_of Cover net initial l fits next q in
          sound_looked Cover net initial l fits next (list.Failed (ResultMissing k t)) q
          (result_looked _ _ _ _ k t (of_covered net.places l initial g.start s)
          (record {
            inside = f.inside;
            named = f.able.named;
            missed = of_missing net l g.ready k f.inside t f.able f.uncovered;
            lower = λ u h. of_holds net l g.ready k f.inside u (f.lower u h) (omega (arith, f.able.named));
            earlier = λ j u h hu. of_holds net l g.ready j (omega (arith, f.inside)) u (f.earlier j u h) hu;
          }))

-- at a marking, which has no ω, enabled and the result are the published ones without the capacity rule
pub enabled_at_marking : (net : Net) (m : List ℕ) (t : ℕ) → CoverEnabled net (marking m) t ↔ ((t < net.transitions) × ((p : ℕ) → p < net.places → firing.Covers net m t p))
enabled_at_marking net m t = (λ a. (a.named, a.enough.at), λ h. record { named = h.0; enough = record { at = h.1 } })

pub result_at_marking : (net : Net) (m m' : List ℕ) (t : ℕ) → CoverEnabled net (marking m) t → Gives net m t m' → (p : ℕ) → p < net.places → result_at net t (marking m) p ≡ marking m' p
result_at_marking net m m' t a g p h =
    let e : tokens m p + Post net p t - Pre net p t ≡ tokens m' p = omega (arith, gives_plain g p h, a.enough.at p h) in
    ap nat e

-- "covers" carries on, and a fuller place stays fuller under firing
covers_on : (x y z : Number) → CoversAt x y → CoversAt y z → CoversAt x z
covers_on any y z h k = tt
covers_on (nat a) (nat b) (nat c) h k = omega arith
covers_on (nat a) (nat b) any h k = absurd k
covers_on (nat a) any z h k = absurd h

pub covers_through : {P : ℕ} {x y z : ℕ → Number} → CoversMarking P x y → CoversMarking P y z → CoversMarking P x z
covers_through {P} {x} {y} {z} h k = record { at = λ p b. covers_on (x p) (y p) (z p) (h.at p b) (k.at p b) }

fuller_after : (takes puts n k : ℕ) (x : Number) → CoversAt x (nat n) → takes ≤ n → k + takes ≡ n + puts → CoversAt (after takes puts x) (nat k)
fuller_after takes puts n k (nat a) h e q = omega arith
fuller_after takes puts n k any h e q = tt

-- every marking reachable in the net with its capacities is covered by a listed one: capacities only disable
pub cover_covers : {net : Net} {initial l m : List ℕ} → IsCover net initial l → Reachable net initial m → ListCovers net.places l (marking m)
cover_covers {net} {initial} {l} {m} c r = reachable_has net (λ (x : List ℕ). ListCovers net.places l (marking x)) step r c.starts
  where
    step : (x y : List ℕ) (t : ℕ) → Firing net x t y → ListCovers net.places l (marking x) → ListCovers net.places l (marking y)
    step x y t f h =
        let a : EnabledAt net l h.number t = record { named = f.named; enough = covers_through h.covers (record { at = f.enabled.covers }) } in
        let d = c.holds h.number t h.inside a in
        record {
          number = d.number;
          inside = d.inside;
          covers =
              covers_through d.covers
              (record {
                at = λ p b.
                    fuller_after (Pre net p t) (Post net p t) (tokens x p) (tokens y p) (listed (marking_at net.places l h.number) p) (h.covers.at p b) (f.enabled.covers p b) (gives_plain f.gives p b);
              });
        }

-- each promise fixes its answer
module _ (net : Net) (initial l : List ℕ) where
  pub unique_list : (r r' : Answer ListAnswer) → numbers r ≡ numbers (list_of Cover net initial l true (Ok tt)) → numbers r' ≡ numbers (list_of Cover net initial l true (Ok tt)) → r ≡ r'
  unique_list r r' p q = numbers_apart r r' (p ∙ sym q)

  pub unique_target : (m : List ℕ) (r r' : Answer ClaimAnswer) → claim_numbers r ≡ claim_numbers (target_of Cover net initial l m) → claim_numbers r' ≡ claim_numbers (target_of Cover net initial l m) → r ≡ r'
  unique_target m r r' p q = claim_numbers_apart r r' (p ∙ sym q)
