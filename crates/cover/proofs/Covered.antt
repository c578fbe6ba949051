-- The code's tests of a cover list (lists/specs/Match.antt, list_check/specs/Fire.antt) say what is published over ω-markings: a marking covered by
-- a listed one, a pair's result covered. Assumes nothing.
use Prim.Native.Nat.{ℕ, ◌<◌}
use mathlib.Core.Path.{◌≡◌, refl, sym, ◌∙◌}
use mathlib.Core.Bool.{Bool, true, false}
use mathlib.Core.List.{List}
use native.Mathlib.Omega.{arith}
use lib.ListN.{length, get_or}
use lib.Dec.{leb}
use borrow.Author.Tests.{ltb-false, le-ltb, leb-true, leb-false, not-true, not-false}
use Rattle.ground.specs.Limits.{token_limit}
use Rattle.ground.specs.Lists.{first}
use Rattle.ground.proofs.Tests.{never, and-true}
use Rattle.ground.proofs.Fill.{table_length, table_at}
use Rattle.net.specs.Net.{Net, Pre, Post, tokens}
use Rattle.lists.specs.Whole.{count, marking_at}
use Rattle.lists.specs.Match.{beyond, covering, matches, held}
use Rattle.lists.specs.declared.Kind.TheVariants.{Cover}
use Rattle.lists.proofs.Somes.{some_first, some_is, is_none, none_at}
use Rattle.lists.proofs.Wholes.{marking_long}
use Rattle.list_pairs.specs.Fire.{lacks, passes_any, after_any, fired_any}
use Rattle.list_pairs.specs.Look.{Ready, absent, missing}
use Rattle.cover.specs.Number.{nat, entry_number, listed, marking, CoversAt, CoversMarking, after}
use Rattle.cover.specs.Cover.{CoverEnabled, result_at, ListCovers, EnabledAt, ResultCovered}

-- one place: the test for an entry that is a number and less than x, tokens or a weight
of_beyond : (entry x : ℕ) → beyond entry x ≡ false → CoversAt (entry_number entry) (nat x)
of_beyond entry x e = go (leb entry token_limit) refl
  where
    go : (b : Bool) → leb entry token_limit ≡ b → CoversAt (entry_number entry) (nat x)
    go true q = rw q (ltb-false entry x (rw q at e))
    go false q = rw q tt

beyond_of : (entry x : ℕ) → CoversAt (entry_number entry) (nat x) → beyond entry x ≡ false
beyond_of entry x c = go (leb entry token_limit) refl
  where
    go : (b : Bool) → leb entry token_limit ≡ b → beyond entry x ≡ false
    go true q = rw q (le-ltb entry x (rw q at c))
    go false q = rw q

-- the code's result at a place, one number in 32 bits, is covered by just the entries that cover the published one
module _ (takes puts entry d : ℕ) where
  after_of : CoversAt (entry_number d) (nat (after_any takes puts entry)) → CoversAt (entry_number d) (after takes puts (entry_number entry))
  after_of x = go (leb entry token_limit) refl (leb d token_limit) refl
    where
      go : (b : Bool) → leb entry token_limit ≡ b → (c : Bool) → leb d token_limit ≡ c → CoversAt (entry_number d) (after takes puts (entry_number entry))
      go true e c f = rw e (rw e at x)
      go false e true f = absurd (omega (arith, leb-false entry token_limit e, leb-true d token_limit f, rw (e, f) at x))
      go false e false f = rw (e, f) tt

  of_after : CoversAt (entry_number d) (after takes puts (entry_number entry)) → CoversAt (entry_number d) (nat (after_any takes puts entry))
  of_after x = go (leb entry token_limit) refl (leb d token_limit) refl
    where
      go : (b : Bool) → leb entry token_limit ≡ b → (c : Bool) → leb d token_limit ≡ c → CoversAt (entry_number d) (nat (after_any takes puts entry))
      go true e c f = rw e (rw e at x)
      go false e true f = absurd (rw (e, f) at x)
      go false e false f = rw (e, f) tt

-- a listed marking covers m
covers_of : (P : ℕ) (c m : List ℕ) → length m ≡ P → covering c m ≡ true → CoversMarking P (listed c) (marking m)
covers_of P c m e q = record { at = λ p h. of_beyond (tokens c p) (tokens m p) (none_at (λ p. beyond (get_or c p 0) (get_or m p 0)) (length m) q p (omega arith)) }

of_covers : (P : ℕ) (c m : List ℕ) → length m ≡ P → CoversMarking P (listed c) (marking m) → covering c m ≡ true
of_covers P c m e x = is_none (λ p. beyond (get_or c p 0) (get_or m p 0)) (length m) (λ p h. beyond_of (tokens c p) (tokens m p) (x.at p (omega arith)))

module _ (P : ℕ) (l m : List ℕ) (e : length m ≡ P) where
  pub of_covered : ListCovers P l (marking m) → held Cover P (count P l) l m ≡ true
  unfolding matches
  of_covered h = some_is (λ k. covering (marking_at P l k) m) (count P l) h.number h.inside (of_covers P (marking_at P l h.number) m e h.covers)

  pub covered_of : held Cover P (count P l) l m ≡ true → ListCovers P l (marking m)
  unfolding matches
  covered_of q =
      let f = some_first (λ k. covering (marking_at P l k) m) (count P l) q in
      let k = first (λ k. covering (marking_at P l k) m) (count P l) in
      record { number = k; inside = f.0; covers = covers_of P (marking_at P l k) m e f.1 }

  pub uncovered_of : held Cover P (count P l) l m ≡ false → ListCovers P l (marking m) → ⊥
  uncovered_of q h = never (sym (of_covered h) ∙ q)

  pub of_uncovered : (ListCovers P l (marking m) → ⊥) → held Cover P (count P l) l m ≡ false
  of_uncovered h = go (held Cover P (count P l) l m) refl
    where
      go : (b : Bool) → held Cover P (count P l) l m ≡ b → held Cover P (count P l) l m ≡ false
      go true q = absurd (h (covered_of q))
      go false q = q

-- what the code makes of a listed marking c
abbrev made : Net → ℕ → List ℕ → List ℕ
made net t c = fired_any net.places net.pre net.post t c

-- a transition at a listed marking c of as many places: enabled, and its result
module _ (net : Net) (c : List ℕ) (t : ℕ) (long : length c ≡ net.places) where
  able_of : t < net.transitions → passes_any net.places net.pre t c ≡ true → CoverEnabled net (listed c) t
  able_of h q =
      record {
        named = h;
        enough = record { at = λ p b. of_beyond (tokens c p) (Pre net p t) (none_at (λ p. lacks (Pre net p t) (tokens c p)) (length c) q p (omega arith)) };
      }

  of_able : CoverEnabled net (listed c) t → passes_any net.places net.pre t c ≡ true
  of_able a =
      is_none (λ p. lacks (Pre net p t) (tokens c p)) (length c)
      (λ p h. let b : p < net.places = omega arith in beyond_of (tokens c p) (Pre net p t) (a.enough.at p b))

  made_long : length (made net t c) ≡ net.places
  made_long = table_length (λ p. after_any (Pre net p t) (Post net p t) (tokens c p)) (length c) ∙ long

  made_at : (p : ℕ) → p < net.places → tokens (made net t c) p ≡ after_any (Pre net p t) (Post net p t) (tokens c p)
  made_at p h = table_at (λ p. after_any (Pre net p t) (Post net p t) (tokens c p)) (length c) p 0 (omega arith)

  -- the list covers the result exactly where it covers what the code makes
  module _ (l : List ℕ) where
    result_of : ListCovers net.places l (marking (made net t c)) → ListCovers net.places l (result_at net t (listed c))
    result_of x =
        record {
          number = x.number;
          inside = x.inside;
          covers = record { at = λ p h. after_of (Pre net p t) (Post net p t) (tokens c p) (tokens (marking_at net.places l x.number) p) (rw (← made_at p h) (x.covers.at p h)) };
        }

    of_result : ListCovers net.places l (result_at net t (listed c)) → ListCovers net.places l (marking (made net t c))
    of_result x =
        record {
          number = x.number;
          inside = x.inside;
          covers = record { at = λ p h. rw (made_at p h) (of_after (Pre net p t) (Post net p t) (tokens c p) (tokens (marking_at net.places l x.number) p) (x.covers.at p h)) };
        }

-- a pair's test says what is published
module _ (net : Net) (l : List ℕ) (ready : Ready net (count net.places l) l) (k : ℕ) (h : k < count net.places l) (t : ℕ) where
  abbrev c : List ℕ
  c = marking_at net.places l k

  long_at : length c ≡ net.places
  long_at = marking_long net.places (count net.places l) l k ready.long h

  pub holds_of : missing Cover net (count net.places l) l k t ≡ false → EnabledAt net l k t → ResultCovered net l k t
  unfolding absent
  holds_of q a =
      let e = of_able net c t long_at a in
      result_of net c t long_at l
      (covered_of net.places l (made net t c) (made_long net c t long_at) (not-false _ (rw e at q)))

  pub missing_of : t < net.transitions → missing Cover net (count net.places l) l k t ≡ true → EnabledAt net l k t × (ResultCovered net l k t → ⊥)
  unfolding absent
  missing_of ht q =
      let b = and-true (passes_any net.places net.pre t c) _ q in (
        able_of net c t long_at ht b.0,
        λ x. uncovered_of net.places l (made net t c) (made_long net c t long_at) (not-true _ b.1) (of_result net c t long_at l x),
      )

  pub of_holds : (EnabledAt net l k t → ResultCovered net l k t) → t < net.transitions → missing Cover net (count net.places l) l k t ≡ false
  of_holds q ht = go (missing Cover net (count net.places l) l k t) refl
    where
      go : (b : Bool) → missing Cover net (count net.places l) l k t ≡ b → missing Cover net (count net.places l) l k t ≡ false
      go true e = let m = missing_of ht e in absurd (m.1 (q m.0))
      go false e = e

  pub of_missing : EnabledAt net l k t → (ResultCovered net l k t → ⊥) → missing Cover net (count net.places l) l k t ≡ true
  of_missing a q = go (missing Cover net (count net.places l) l k t) refl
    where
      go : (b : Bool) → missing Cover net (count net.places l) l k t ≡ b → missing Cover net (count net.places l) l k t ≡ true
      go true e = e
      go false e = absurd (q (holds_of e a))
