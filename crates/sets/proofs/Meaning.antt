-- What the answers for sets mean, by the published definitions of firing, siphons and traps. Assumes nothing.
use Rattle.std.specs.Prelude.{Ok}
use Rattle.refusals.specs.Given.{Answer}
use Prim.Native.Nat.{ℕ, ◌≤◌, ◌<◌}
use mathlib.Core.Path.{◌≡◌, refl, sym, ap, ◌∙◌}
use mathlib.Core.Bool.{Bool, true, false, not}
use mathlib.Core.Logic.{◌↔◌}
use mathlib.Core.List.{List}
use native.Mathlib.Omega.{arith}
use native.Mathlib.Decide.{dec_lt}
use lib.ListN.{length, get_or}
use lib.Dec.{ltb}
use borrow.Author.Tests.{lt-ltb, le-ltb, ltb-true, ltb-false}
use Rattle.ground.specs.Lists.{first}
use Rattle.ground.proofs.Tests.{never, and-true}
use Rattle.ground.proofs.Scan.{first-at, first_none, first_below, first_passes}
use Rattle.net.specs.Net.{Net, Pre, Post, tokens}
use Rattle.net.specs.Firing.{Firing, Fires, Reachable}
use Rattle.net.proofs.Meaning.{gives_plain, kept}
use Rattle.sets.specs.Sets.{In, Some, PutsInto, TakesFrom, Siphon, Trap, SiphonFails, TrapFails, Marked, Unmarked}
use Rattle.sets.specs.Allowed.{Allowed}
use Rattle.sets.specs.Answer.{meets, touches, escapes, lowest_escape, turned, judged_set, siphon_of, trap_of}
use Rattle.sets.specs.declared.SetAnswer.{SetAnswer}
use Rattle.sets.specs.declared.SetAnswer.TheVariants.{Yes, No}
use Rattle.sets.proofs.Allowed.{of_allowed}

-- ---- the tests say what is published
-- a row touches the set exactly where some place of the set has an arc in it
module _ (P : ℕ) (s : List ℕ) (weight : ℕ → ℕ) (long : length s ≡ P) where
  touch_of : touches s weight ≡ true → Some P s weight
  unfolding touches
  touch_of e =
      let f : ℕ → Bool = λ p. meets (weight p) (get_or s p 0) in
      let h = ltb-true (first f (length s)) (length s) e in
      let m = and-true _ _ (first_passes f (length s) h) in
      record { place = first f (length s); here = rw (← long) h; member = ltb-true _ _ m.0; some = ltb-true _ _ m.1 }

  of_touch : Some P s weight → touches s weight ≡ true
  unfolding touches
  of_touch x = go (dec_lt (first (λ p. meets (weight p) (get_or s p 0)) (length s)) (length s))
    where
      met : meets (weight x.place) (get_or s x.place 0) ≡ true
      met = rw (lt-ltb 0 (get_or s x.place 0) x.member) (lt-ltb 0 _ x.some)

      go : Dec (first (λ p. meets (weight p) (get_or s p 0)) (length s) < length s) → ltb (first (λ p. meets (weight p) (get_or s p 0)) (length s)) (length s) ≡ true
      go (yes h) = lt-ltb _ _ h
      go (no h) = never (sym met ∙ first_below (λ p. meets (weight p) (get_or s p 0)) (length s) x.place (omega (arith, x.here)))

module _ (net : Net) (s : List ℕ) (long : length s ≡ net.places) (t : ℕ) where
  escape_of : escapes net s t ≡ true → PutsInto net s t × (TakesFrom net s t → ⊥)
  unfolding escapes
  escape_of e =
      let a = and-true _ _ e in
      (touch_of net.places s (λ p. Post net p t) long a.0, λ x. never (sym a.1 ∙ ap not (of_touch net.places s (λ p. Pre net p t) long x)))

  closed_of : escapes net s t ≡ false → PutsInto net s t → TakesFrom net s t
  unfolding escapes
  closed_of e x = go (touches s (λ p. Pre net p t)) refl
    where
      go : (b : Bool) → touches s (λ p. Pre net p t) ≡ b → TakesFrom net s t
      go true q = touch_of net.places s (λ p. Pre net p t) long q
      go false q = never (rw (of_touch net.places s (λ p. Post net p t) long x, q) at e)

  of_closed : (PutsInto net s t → TakesFrom net s t) → escapes net s t ≡ false
  of_closed f = go (escapes net s t) refl
    where
      go : (b : Bool) → escapes net s t ≡ b → escapes net s t ≡ false
      go true q = let x = escape_of q in absurd (x.1 (f x.0))
      go false q = q

  of_escape : PutsInto net s t → (TakesFrom net s t → ⊥) → escapes net s t ≡ true
  of_escape x n = go (escapes net s t) refl
    where
      go : (b : Bool) → escapes net s t ≡ b → escapes net s t ≡ true
      go true q = q
      go false q = absurd (n (closed_of q x))

-- ---- accepted exactly if the published definition holds, and the named transition is the lowest at which it fails
module _ (net : Net) (s : List ℕ) (long : length s ≡ net.places) where
  judged_yes : (judged_set net s ≡ Yes) ↔ Siphon net s
  judged_yes = (λ e. go e (ltb (lowest_escape net s) net.transitions) refl, λ i. rw (le-ltb (lowest_escape net s) net.transitions (none i)))
    where
      none : Siphon net s → net.transitions ≤ lowest_escape net s
      none i = let e = first_none (escapes net s) net.transitions (λ t h. of_closed net s long t (i t h)) in omega arith

      go : judged_set net s ≡ Yes → (b : Bool) → ltb (lowest_escape net s) net.transitions ≡ b → Siphon net s
      go e true q = let z : No (lowest_escape net s) ≡ Yes = rw q at e in let k : ◌≡◌ {A = ℕ} 0 1 = cc in absurd (omega arith)
      go e false q = let l = ltb-false (lowest_escape net s) net.transitions q in λ t h. closed_of net s long t (first_below (escapes net s) net.transitions t (omega arith))

  judged_no : (t : ℕ) → (judged_set net s ≡ No t) ↔ SiphonFails net s t
  judged_no t = (λ e. go e (ltb (lowest_escape net s) net.transitions) refl, λ f. let q = low f in rw (q, lt-ltb t net.transitions f.here))
    where
      low : SiphonFails net s t → lowest_escape net s ≡ t
      low f = first-at (escapes net s) net.transitions t (λ u h. of_closed net s long u (f.lowest u h)) (of_escape net s long t f.one f.other) f.here

      go : judged_set net s ≡ No t → (b : Bool) → ltb (lowest_escape net s) net.transitions ≡ b → SiphonFails net s t
      go e true q =
          let z : No (lowest_escape net s) ≡ No t = rw q at e in
          let k : lowest_escape net s ≡ t = cc in
          let h = ltb-true _ _ q in
          let x = escape_of net s long (lowest_escape net s) (first_passes (escapes net s) net.transitions h) in
          rw (← k) (record { here = h; one = x.0; other = x.1; lowest = λ u l. closed_of net s long u (first_below (escapes net s) net.transitions u l) })
      go e false q = let z : Yes ≡ No t = rw q at e in let k : ◌≡◌ {A = ℕ} 0 1 = cc in absurd (omega arith)

-- the answer that was judged is given
given : {P : Type 0} (a b : SetAnswer) (r : Answer SetAnswer) → r ≡ Ok a → ((a ≡ b) ↔ P) → (r ≡ Ok b) ↔ P
given a b r e f = (λ q. f.0 (let z : ◌≡◌ {A = Answer SetAnswer} (Ok a) (Ok b) = sym e ∙ q in cc), λ p. e ∙ ap Ok (f.1 p))

module _ (net : Net) (s : List ℕ) (ok : Allowed net s) where
  siphon_is : siphon_of net s ≡ Ok (judged_set net s)
  siphon_is = rw (of_allowed net s ok)

  pub siphon_accepted : (siphon_of net s ≡ Ok Yes) ↔ Siphon net s
  siphon_accepted = given (judged_set net s) Yes (siphon_of net s) siphon_is (judged_yes net s ok.long)

  pub siphon_fails_at : (t : ℕ) → (siphon_of net s ≡ Ok (No t)) ↔ SiphonFails net s t
  siphon_fails_at t = given (judged_set net s) (No t) (siphon_of net s) siphon_is (judged_no net s ok.long t)

  trap_is : trap_of net s ≡ Ok (judged_set (turned net) s)
  trap_is = rw (of_allowed net s ok)

  pub trap_accepted : (trap_of net s ≡ Ok Yes) ↔ Trap net s
  trap_accepted = given (judged_set (turned net) s) Yes (trap_of net s) trap_is (judged_yes (turned net) s ok.long)

  pub trap_fails_at : (t : ℕ) → (trap_of net s ≡ Ok (No t)) ↔ TrapFails net s t
  trap_fails_at t = given (judged_set (turned net) s) (No t) (trap_of net s) trap_is (judged_no (turned net) s ok.long t)

-- ---- "An unmarked siphon stays unmarked and a marked trap stays marked, weights and capacities included."
pub siphon_stays_empty : {net : Net} {s m w m' : List ℕ} → Siphon net s → Fires net m w m' → Unmarked net s m → Unmarked net s m'
siphon_stays_empty {net} {s} i f u = kept net (Unmarked net s) step f u
  where
    step : (m m' : List ℕ) (t : ℕ) → Firing net m t m' → Unmarked net s m → Unmarked net s m'
    step m m' t g u = record { at = λ p h b. go p h b (dec_lt 0 (Post net p t)) }
      where
        go : (p : ℕ) → p < net.places → In s p → Dec (0 < Post net p t) → tokens m' p ≡ 0
        go p h b (yes k) =
            let x = i t g.named (record { place = p; here = h; member = b; some = k }) in
            absurd (omega (arith, g.enabled.covers x.place x.here, u.at x.place x.here x.member, x.some))
        go p h b (no k) = omega (arith, gives_plain g.gives p h, u.at p h b)

pub trap_stays_marked : {net : Net} {s m w m' : List ℕ} → Trap net s → Fires net m w m' → Marked net s m → Marked net s m'
trap_stays_marked {net} {s} i f u = kept net (Marked net s) step f u
  where
    step : (m m' : List ℕ) (t : ℕ) → Firing net m t m' → Marked net s m → Marked net s m'
    step m m' t g u = go (dec_lt 0 (Pre net u.place t))
      where
        go : Dec (0 < Pre net u.place t) → Marked net s m'
        go (yes k) =
            let x = i t g.named (record { place = u.place; here = u.here; member = u.member; some = k }) in
            record { place = x.place; here = x.here; member = x.member; some = omega (arith, gives_plain g.gives x.place x.here, g.enabled.covers x.place x.here, x.some) }
        go (no k) = record { place = u.place; here = u.here; member = u.member; some = omega (arith, gives_plain g.gives u.place u.here, u.some) }

-- the same of every reachable marking
pub siphon_never_marked : {net : Net} {s m m' : List ℕ} → Siphon net s → Reachable net m m' → Unmarked net s m → Unmarked net s m'
siphon_never_marked i r u = siphon_stays_empty i r.fires u

pub trap_never_empty : {net : Net} {s m m' : List ℕ} → Trap net s → Reachable net m m' → Marked net s m → Marked net s m'
trap_never_empty i r u = trap_stays_marked i r.fires u
