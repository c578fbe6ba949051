-- The code's tests of a closed list say what is published: a marking listed, a pair's result listed, a listed marking that enables something.
-- Assumes nothing.
use Prim.Native.Nat.{ℕ, ◌*◌, ◌<◌}
use mathlib.Core.Path.{◌≡◌, refl, sym, ap, ◌∙◌}
use mathlib.Core.Bool.{Bool, true, false}
use mathlib.Core.List.{List}
use native.Mathlib.Omega.{arith}
use lib.ListN.{length, get_or}
use lib.Seq.{ext_get_or}
use borrow.Author.Tests.{not-true, not-false}
use Rattle.ground.specs.Lists.{first}
use Rattle.ground.proofs.Tests.{never, and-true, unlike_false, like_false}
use Rattle.net.specs.Net.{Net}
use Rattle.net.specs.Letter.{arcs_at, passes, fired_at}
use Rattle.net.proofs.Meaning.{gives_one}
use Rattle.net.proofs.Judged.{enabled_of, passes_of, gives_fired}
use Rattle.refusals.specs.Given.{unlike}
use Rattle.lists.specs.Whole.{count, marking_at}
use Rattle.lists.specs.Match.{alike, matches, held}
use Rattle.lists.specs.declared.Kind.TheVariants.{Closed}
use Rattle.lists.proofs.Somes.{some_first, some_none, some_is, is_none, none_at, none_first}
use Rattle.lists.proofs.Wholes.{marking_long}
use Rattle.list_pairs.specs.Look.{Ready, absent, missing}
use Rattle.closed.specs.Closed.{Listed, FiringAt, EnabledResultListed, AllEnable, DeadListed}
use Rattle.closed.specs.Dead.{dead, some_dead}

-- two markings as long agree at every place exactly where they are equal
alike_is : (l m : List ℕ) → length l ≡ length m → alike l m ≡ true → l ≡ m
alike_is l m e q = ext_get_or 0 l m e (λ p h. unlike_false (get_or l p 0) (get_or m p 0) (none_at (λ p. unlike (get_or l p 0) (get_or m p 0)) (length m) q p (omega arith)))

is_alike : (l m : List ℕ) → l ≡ m → alike l m ≡ true
is_alike l m e = is_none (λ p. unlike (get_or l p 0) (get_or m p 0)) (length m) (λ p h. like_false (get_or l p 0) (get_or m p 0) (ap (λ (x : List ℕ). get_or x p 0) e))

-- the test for a listed marking says what is published
module _ (P : ℕ) (l : List ℕ) (m : List ℕ) where
  pub of_listed : Listed P l m → held Closed P (count P l) l m ≡ true
  unfolding matches
  of_listed h = some_is (λ k. alike (marking_at P l k) m) (count P l) h.number h.inside (is_alike _ m h.is)

  pub listed_of : length l ≡ count P l * P → length m ≡ P → held Closed P (count P l) l m ≡ true → Listed P l m
  unfolding matches
  listed_of long e q =
      let f = some_first (λ k. alike (marking_at P l k) m) (count P l) q in
      let k = first (λ k. alike (marking_at P l k) m) (count P l) in
      record { number = k; inside = f.0; is = alike_is (marking_at P l k) m (marking_long P (count P l) l k long f.0 ∙ sym e) f.1 }

  pub unlisted_of : held Closed P (count P l) l m ≡ false → Listed P l m → ⊥
  unlisted_of q h = never (sym (of_listed h) ∙ q)

  pub of_unlisted : length l ≡ count P l * P → length m ≡ P → (Listed P l m → ⊥) → held Closed P (count P l) l m ≡ false
  of_unlisted long e h = go (held Closed P (count P l) l m) refl
    where
      go : (b : Bool) → held Closed P (count P l) l m ≡ b → held Closed P (count P l) l m ≡ false
      go true q = absurd (h (listed_of long e q))
      go false q = q

-- a pair's test says what is published
module _ (net : Net) (l : List ℕ) (ready : Ready net (count net.places l) l) (k : ℕ) (h : k < count net.places l) (t : ℕ) where
  long_at : length (marking_at net.places l k) ≡ net.places
  long_at = marking_long net.places (count net.places l) l k ready.long h

  pub holds_of : missing Closed net (count net.places l) l k t ≡ false → EnabledResultListed net l k t
  unfolding absent
  holds_of q m' f =
      let g = gives_fired net (marking_at net.places l k) t long_at f.enabled in
      let e = passes_of net (marking_at net.places l k) t long_at f.enabled in
      rw (gives_one f.gives g)
      (listed_of net.places l (fired_at net t (marking_at net.places l k)) ready.long g.long (not-false _ (rw e at q)))

  pub missing_of : t < net.transitions → missing Closed net (count net.places l) l k t ≡ true → (m' : List ℕ) × FiringAt net l k t m' × (Listed net.places l m' → ⊥)
  unfolding absent
  missing_of ht q =
      let a = and-true (passes (arcs_at net t) (marking_at net.places l k)) _ q in
      let e = enabled_of net (marking_at net.places l k) t long_at a.0 in
      let m' = fired_at net t (marking_at net.places l k) in (
        m',
        record { named = ht; enabled = e; gives = gives_fired net (marking_at net.places l k) t long_at e },
        unlisted_of net.places l m' (not-true _ a.1),
      )

  pub of_holds : EnabledResultListed net l k t → t < net.transitions → missing Closed net (count net.places l) l k t ≡ false
  of_holds q ht = go (missing Closed net (count net.places l) l k t) refl
    where
      go : (b : Bool) → missing Closed net (count net.places l) l k t ≡ b → missing Closed net (count net.places l) l k t ≡ false
      go true e = let m = missing_of ht e in absurd (m.2 (q m.0 m.1))
      go false e = e

  pub of_missing : (m' : List ℕ) → FiringAt net l k t m' → (Listed net.places l m' → ⊥) → missing Closed net (count net.places l) l k t ≡ true
  of_missing m' f q = go (missing Closed net (count net.places l) l k t) refl
    where
      go : (b : Bool) → missing Closed net (count net.places l) l k t ≡ b → missing Closed net (count net.places l) l k t ≡ true
      go true e = e
      go false e = absurd (q (holds_of e m' f))

-- and the test for a listed marking that enables nothing
module _ (net : Net) (l : List ℕ) (ready : Ready net (count net.places l) l) where
  enables : ℕ → ℕ → Bool
  enables k t = passes (arcs_at net t) (marking_at net.places l k)

  pub all_enable : some_dead net (count net.places l) l ≡ false → AllEnable net l
  unfolding enables
  all_enable q =
      record {
        transition = λ k. first (enables k) net.transitions;
        named = λ k h. (none_first (enables k) net.transitions (some_none (dead net l) (count net.places l) q k h)).0;
        enabled = λ k h.
            enabled_of net (marking_at net.places l k) (first (enables k) net.transitions) (long_at net l ready k h 0)
            (none_first (enables k) net.transitions (some_none (dead net l) (count net.places l) q k h)).1;
      }

  pub dead_of : some_dead net (count net.places l) l ≡ true → DeadListed net l
  unfolding enables
  dead_of q =
      let f = some_first (dead net l) (count net.places l) q in
      let k = first (dead net l) (count net.places l) in
      record {
        number = k;
        inside = f.0;
        enables_none_lem = λ t h e. never (sym (passes_of net (marking_at net.places l k) t (long_at net l ready k f.0 0) e) ∙ none_at (enables k) net.transitions f.1 t h);
      }

  pub of_dead : DeadListed net l → some_dead net (count net.places l) l ≡ true
  unfolding enables
  of_dead d = some_is (dead net l) (count net.places l) d.number d.inside (is_none (enables d.number) net.transitions (λ t h. go t h (enables d.number t) refl))
    where
      go : (t : ℕ) → t < net.transitions → (b : Bool) → enables d.number t ≡ b → enables d.number t ≡ false
      go t h true e = absurd (d.enables_none_lem t h (enabled_of net (marking_at net.places l d.number) t (long_at net l ready d.number d.inside 0) e))
      go t h false e = e

  pub of_enabling : AllEnable net l → some_dead net (count net.places l) l ≡ false
  of_enabling a = go (some_dead net (count net.places l) l) refl
    where
      go : (b : Bool) → some_dead net (count net.places l) l ≡ b → some_dead net (count net.places l) l ≡ false
      go true e = let d = dead_of e in absurd (d.enables_none_lem (a.transition d.number) (a.named d.number d.inside) (a.enabled d.number d.inside))
      go false e = e
