-- "Exactly when": a chain of refusals is read demand by demand, for any chain and any answer. Assumes nothing.
use Rattle.std.specs.Prelude.{Ok, Err}
use Rattle.refusals.specs.declared.Refusal.{Refusal}
use Rattle.refusals.specs.Given.{Answer, Fault, refusal, refused}
use Prim.Native.Nat.{ℕ, ◌+◌, ◌*◌, ◌<◌}
use mathlib.Core.Path.{◌≡◌, refl, sym, ap, ◌∙◌}
use mathlib.Core.Bool.{Bool, true, false, not, ◌&&◌, ◌||◌}
use mathlib.Core.List.{List}
use mathlib.Core.Logic.{◌↔◌}
use native.Mathlib.Omega.{arith}
use native.Mathlib.Decide.{dec_lt}
use lib.ListN.{length, get_or}
use lib.Dec.{ltb, leb, eqb}
use borrow.Author.Tests.{lt-ltb, le-ltb, ltb-false, lt-leb, leb-false, eq-eqb, eqb-true, not-false}
use Rattle.ground.specs.Limits.{count_limit, token_limit, word_limit}
use Rattle.ground.specs.Lists.{first}
use Rattle.ground.proofs.Tests.{never, or-false, both_false, and-true, unlike_false, like_false}
use Rattle.ground.proofs.Scan.{first-at, first_none, first_below, first_passes}
use Rattle.net.specs.Net.{Net}
use Rattle.wiring.specs.Wired.{PlaceWired, TransitionWired, loose_place, loose_transition, lowest_loose_transition}
use Rattle.wiring.proofs.Loose.{place_wired, wired_place, transition_wired, wired_transition}
use Rattle.weights.specs.Heavy.{LightAt, heavy}
use Rattle.weights.proofs.Heavies.{light_at, at_light}
use Rattle.refusals.specs.Given.{refuse, or_else, outside, unlike, misfit, token_bad, bad_token, weights_fault, counts_fault, loose_fault, net_fault, marking_fault, start_fault, marked_fault, word_fault, Fine, Letters}
use Rattle.refusals.specs.First.{First, fails, holds, Given, GivenAt, Above, Counts, Lengths, FineAt, CountsFirst, LooseFirst, NetFirst, StartFirst, MarkedFirst, WordFirst}
use Rattle.refusals.proofs.Chains.{refused_one, not_sound, or_assoc, or-none, refuse_sound}
use Rattle.refusals.proofs.Refusals.{inside_of, inside_is, fine_of}

-- ---- one test
-- the fault f tells of its demand: nothing where it holds, else exactly what `Tell` says
pub record Tells (f : Fault) (Demand : Type 0) (Tell : ℕ → ℕ → Type 0) : Type 0 where
  pub sound : f ≡ Ok tt → Demand
  pub fails : (n at : ℕ) → f ≡ Err (refusal n at) → (Demand → ⊥) × Tell n at
  pub exact : (n at : ℕ) → (Demand → ⊥) → Tell n at → f ≡ Err (refusal n at)

-- a demand said otherwise
pub tells_as : {f : Fault} {D E : Type 0} {Tell : ℕ → ℕ → Type 0} → (D → E) → (E → D) → Tells f D Tell → Tells f E Tell
tells_as there back t =
    record {
      sound = λ e. there (t.sound e);
      fails = λ n at e. let q = t.fails n at e in (λ d. q.0 (back d), q.1);
      exact = λ n at miss g. t.exact n at (λ d. miss (there d)) g;
    }

-- a test with a number and a position of its own
pub tells_test : (b : Bool) (k p : ℕ) {D : Type 0} → (b ≡ false → D) → (D → b ≡ false) → Tells (refuse b k p) D (Given k p)
tells_test true k p yes_of of-yes =
    record {
      sound = λ e. not_sound k p e;
      fails = λ n at e. let q = refused_one k p n at e in (λ d. never (of-yes d), record { number = sym q.0; position = sym q.1 });
      exact = λ n at miss g. rw (g.number, g.position);
    }
tells_test false k p yes_of of-yes =
    record {
      sound = λ e. yes_of refl;
      fails = λ n at e. not_sound n at (sym e);
      exact = λ n at miss g. absurd (miss (yes_of refl));
    }

-- a scan: its position is the lowest number at which the demand does not hold
pub tells_scan : (f : ℕ → Bool) (count k : ℕ) {D : ℕ → Type 0} → ((p : ℕ) → f p ≡ false → D p) → ((p : ℕ) → D p → f p ≡ false) → Tells (refuse (ltb (first f count) count) k (first f count)) ((p : ℕ) → p < count → D p) (GivenAt k D count)
tells_scan f count k {D} there back =
    record {
      sound = λ e p h. there p (first_below f count p (omega (arith, ltb-false (first f count) count (refuse_sound _ k (first f count) e))));
      fails = λ n at e. go n at e (dec_lt (first f count) count);
      exact = λ n at miss g. let q = low at g in rw (q, lt-ltb at count g.here, g.number);
    }
  where
    low : {n : ℕ} (at : ℕ) → GivenAt k D count n at → first f count ≡ at
    low at g = first-at f count at (λ p h. back p (g.lowest p h)) (hit (f at) refl g.fails) g.here
      where
        hit : (b : Bool) → f at ≡ b → (D at → ⊥) → f at ≡ true
        hit true e miss = e
        hit false e miss = absurd (miss (there at e))

    go : (n at : ℕ) → refuse (ltb (first f count) count) k (first f count) ≡ Err (refusal n at) → Dec (first f count < count) → (((p : ℕ) → p < count → D p) → ⊥) × GivenAt k D count n at
    go n at e (yes h) =
        let q = refused_one k (first f count) n at (rw (lt-ltb (first f count) count h) at e) in
        let bad : D (first f count) → ⊥ = λ d. never (sym (first_passes f count h) ∙ back (first f count) d) in (
          λ all. bad (all (first f count) h),
          record { number = sym q.0; here = rw (← q.1) h; fails = rw (← q.1) bad; lowest = λ p l. there p (first_below f count p (rw q.1 l)) },
        )
    go n at e (no h) = not_sound n at (sym (rw (le-ltb (first f count) count (omega arith)) at e))

-- a position so much above
pub tells_above : (b : Bool) (k p base : ℕ) {D : Type 0} {Tell : ℕ → ℕ → Type 0} → Tells (refuse b k p) D Tell → Tells (refuse b k (base + p)) D (Above base Tell)
tells_above true k p base {D} {Tell} t =
    record {
      sound = λ e. not_sound k (base + p) e;
      fails = λ n at e.
          let q = refused_one k (base + p) n at e in
          let f = t.fails k p refl in (f.0, record { below = p; position = sym q.1; told = rw (← q.0) f.1 });
      exact = λ n at miss g. let q = refused_one k p n g.below (t.exact n g.below miss g.told) in rw (g.position, ← q.0, ← q.1);
    }
tells_above false k p base t =
    record {
      sound = λ e. t.sound refl;
      fails = λ n at e. not_sound n at (sym e);
      exact = λ n at miss g. not_sound n g.below (sym (t.exact n g.below miss g.told));
    }

-- ---- a chain
-- the fault f is given exactly as R says
pub record Chain (f : Fault) (R : ℕ → ℕ → Type 0) : Type 0 where
  pub exactly : (n at : ℕ) → (f ≡ Err (refusal n at)) ↔ R n at

pub chain_end : Chain (Ok tt) (λ n at. ⊥)
chain_end = record { exactly = λ n at. (λ e. not_sound n at (sym e), λ z. absurd z) }

-- f is read as R, whatever comes next
pub record Reads (f : Fault) (R : ℕ → ℕ → Type 0 → Type 0) : Type 1 where
  pub then : (g : Fault) (Next : ℕ → ℕ → Type 0) → Chain g Next → Chain (or_else f g) (λ n at. R n at (Next n at))

pub reads_test : {f : Fault} {D : Type 0} {Tell : ℕ → ℕ → Type 0} → Tells f D Tell → Reads f (λ n at Next. First D (Tell n at) Next)
reads_test {f} {D} {Tell} t = record { then = λ g Next c. record { exactly = λ n at. go f refl g Next c n at } }
  where
    go : (x : Fault) → f ≡ x → (g : Fault) (Next : ℕ → ℕ → Type 0) → Chain g Next → (n at : ℕ) → (or_else f g ≡ Err (refusal n at)) ↔ First D (Tell n at) (Next n at)
    go (Ok _) e g Next c n at = rw e (λ q. holds (t.sound e) ((c.exactly n at).0 q), back)
      where
        back : First D (Tell n at) (Next n at) → g ≡ Err (refusal n at)
        back (fails miss h) = absurd (miss (t.sound e))
        back (holds d h) = (c.exactly n at).1 h
    go (Err r) e g Next c n at = rw e (λ q. there (e ∙ q), λ h. sym e ∙ back h)
      where
        there : f ≡ Err (refusal n at) → First D (Tell n at) (Next n at)
        there q = let h = t.fails n at q in fails h.0 h.1

        back : First D (Tell n at) (Next n at) → f ≡ Err (refusal n at)
        back (fails miss h) = t.exact n at miss h
        back (holds d h) = absurd ((t.fails r.number r.at e).0 d)

pub reads_both : {f g : Fault} {R S : ℕ → ℕ → Type 0 → Type 0} → Reads f R → Reads g S → Reads (or_else f g) (λ n at Next. R n at (S n at Next))
reads_both {f} {g} {R} {S} a b =
    record { then = λ h Next c. rw (or_assoc f g h) (a.then (or_else g h) (λ n at. S n at (Next n at)) (b.then h Next c)) }

-- the whole chain
pub reads_all : {f : Fault} {R : ℕ → ℕ → Type 0 → Type 0} → Reads f R → Chain f (λ n at. R n at ⊥)
reads_all {f} {R} a = rw (or-none f) at (a.then (Ok tt) (λ n at. ⊥) chain_end)

-- ---- the chains that the questions share
pub loose_reads : (net : Net) → Reads (loose_fault net) (LooseFirst net)
unfolding loose_fault
loose_reads net =
    reads_both (reads_test (tells_scan (loose_place net) net.places 17 {D = PlaceWired net} (place_wired net) (wired_place net)))
    (reads_test (tells_above (ltb (lowest_loose_transition net) net.transitions) 17 (lowest_loose_transition net) count_limit
    (tells_scan (loose_transition net) net.transitions 17 {D = TransitionWired net} (transition_wired net) (wired_transition net))))

pub weights_reads : (net : Net) → Reads (weights_fault net) (λ n at Next. First ((t : ℕ) → t < net.transitions → LightAt net t) (GivenAt 18 (LightAt net) net.transitions n at) Next)
unfolding weights_fault
weights_reads net = reads_test (tells_scan (heavy net) net.transitions 18 {D = LightAt net} (light_at net) (at_light net))

module _ (net : Net) (fits : Bool) {Others : Type 0} (there : fits ≡ true → Others) (back : Others → fits ≡ true) where
  pub counts_reads : Reads (counts_fault net fits) (CountsFirst net Others)
  unfolding counts_fault
  counts_reads =
      reads_both (reads_test (tells_test _ 1 0 counts_of of_counts)) (reads_both (reads_test (tells_test _ 2 0 lengths_of of_lengths)) (weights_reads net))
    where
      counts_of : (outside net.places || outside net.transitions) ≡ false → Counts net
      counts_of e =
          let o = or-false (outside net.places) (outside net.transitions) e in
          record {
            some_places = (inside_of net.places o.0).0;
            few_places = (inside_of net.places o.0).1;
            some_transitions = (inside_of net.transitions o.1).0;
            few_transitions = (inside_of net.transitions o.1).1;
          }

      of_counts : Counts net → (outside net.places || outside net.transitions) ≡ false
      of_counts c = both_false _ _ (inside_is net.places c.some_places c.few_places) (inside_is net.transitions c.some_transitions c.few_transitions)

      lengths_of : (misfit net || not fits) ≡ false → Lengths net Others
      lengths_of e =
          let f = or-false (misfit net) (not fits) e in
          let x = or-false (unlike (length net.pre) (net.transitions * net.places)) _ f.0 in
          let y = or-false (unlike (length net.post) (net.transitions * net.places)) _ x.1 in
          let z = or-false (unlike (length net.caps) net.places) (unlike (length net.marks) net.places) y.1 in
          record { pres = unlike_false _ _ x.0; posts = unlike_false _ _ y.0; capped = unlike_false _ _ z.0; noted = unlike_false _ _ z.1; others = there (not-false fits f.1) }

      of_lengths : Lengths net Others → (misfit net || not fits) ≡ false
      of_lengths l =
          both_false _ _ (both_false _ _ (like_false _ _ l.pres) (both_false _ _ (like_false _ _ l.posts) (both_false _ _ (like_false _ _ l.capped) (like_false _ _ l.noted)))) (rw (back l.others))

  pub net_reads : Reads (net_fault net fits) (NetFirst net Others)
  unfolding net_fault
  net_reads = reads_both counts_reads (loose_reads net)

pub marking_reads : (caps m : List ℕ) → Reads (marking_fault caps m) (λ n at Next. First (Fine caps m) (GivenAt 3 (FineAt caps m) (length m) n at) Next)
unfolding marking_fault
marking_reads caps m =
    reads_test (tells_as fine_all all_fine (tells_scan (λ p. token_bad (get_or caps p 0) (get_or m p 0)) (length m) 3 {D = FineAt caps m} at_of of_at))
  where
    at_of : (p : ℕ) → token_bad (get_or caps p 0) (get_or m p 0) ≡ false → FineAt caps m p
    at_of p e =
        let a = or-false (ltb token_limit (get_or m p 0)) (ltb (get_or caps p 0) (get_or m p 0)) e in
        record { few = ltb-false _ _ a.0; within = ltb-false _ _ a.1 }

    of_at : (p : ℕ) → FineAt caps m p → token_bad (get_or caps p 0) (get_or m p 0) ≡ false
    of_at p f = both_false _ _ (le-ltb token_limit (get_or m p 0) f.few) (le-ltb (get_or caps p 0) (get_or m p 0) f.within)

    fine_all : ((p : ℕ) → p < length m → FineAt caps m p) → Fine caps m
    fine_all h =
        fine_of caps m (sound (first_none (λ p. token_bad (get_or caps p 0) (get_or m p 0)) (length m) (λ p l. of_at p (h p l))))
      where
        sound : bad_token caps m ≡ length m → marking_fault caps m ≡ Ok tt
        sound e = rw (le-ltb (bad_token caps m) (length m) (omega arith))

    all_fine : Fine caps m → (p : ℕ) → p < length m → FineAt caps m p
    all_fine f p h = record { few = f.few.at p; within = f.within p h }

module _ (net : Net) (initial : List ℕ) (fits : Bool) {Others : Type 0} (there : fits ≡ true → Others) (back : Others → fits ≡ true) where
  pub start_reads : Reads (start_fault net initial fits) (StartFirst net initial Others)
  unfolding start_fault
  start_reads =
      reads_both (counts_reads net (eqb (length initial) net.places && fits) out into) (marking_reads net.caps initial)
    where
      out : (eqb (length initial) net.places && fits) ≡ true → (length initial ≡ net.places) × Others
      out e = let f = and-true (eqb (length initial) net.places) fits e in (eqb-true _ _ f.0, there f.1)

      into : (length initial ≡ net.places) × Others → (eqb (length initial) net.places && fits) ≡ true
      into o = rw (eq-eqb (length initial) net.places o.0) (back o.1)

  pub marked_reads : Reads (marked_fault net initial fits) (MarkedFirst net initial Others)
  unfolding marked_fault
  marked_reads = reads_both start_reads (loose_reads net)

pub word_reads : (T : ℕ) (w : List ℕ) → Reads (word_fault T w) (WordFirst T w)
unfolding word_fault
word_reads T w =
    reads_both (reads_test (tells_test _ 4 0 (λ e. ltb-false word_limit (length w) e) (λ h. le-ltb word_limit (length w) h)))
    (reads_test (tells_as (λ h. record { at = h }) (λ (l : Letters T w). l.at)
    (tells_scan (λ k. leb T (get_or w k 0)) (length w) 5 {D = λ k. get_or w k 0 < T} (λ k e. leb-false T (get_or w k 0) e) (λ k h. lt-leb T (get_or w k 0) h))))

-- ---- an answer
-- r is the refusal of the fault f, and no refusal where there is none
pub record Answers {A : Type 0} (f : Fault) (r : Answer A) : Type 0 where
  pub given : (n at : ℕ) → f ≡ Err (refusal n at) → r ≡ refused n at
  pub never : f ≡ Ok tt → (n at : ℕ) → r ≡ refused n at → ⊥

-- so it is with an answer behind the checks that is itself no refusal
pub answers_of : {A : Type 0} (f : Fault) (x r : Answer A) → r ≡ or_else f x → ((n at : ℕ) → f ≡ Ok tt → x ≡ refused n at → ⊥) → Answers f r
answers_of f x r e none =
    record {
      given = λ n at q. e ∙ rw q;
      never = λ q n at k. none n at q (sym (e ∙ rw q) ∙ k);
    }

-- two refusals with one number and one position
pub same_refusal : {A : Type 0} (r s : Refusal) → r.number ≡ s.number → r.at ≡ s.at → ◌≡◌ {A = Answer A} (Err r) (Err s)
same_refusal r s e q = ap (λ (z : ℕ × ℕ). Err (refusal z.0 z.1)) (pair_is r.number s.number r.at s.at e q)
  where
    pair_is : (a b c d : ℕ) → a ≡ b → c ≡ d → ◌≡◌ {A = ℕ × ℕ} (a, c) (b, d)
    pair_is a b c d e q = rw (e, q)

-- ... as one that was made
pub not_refused : {A B : Type 0} (a : A) (n at : ℕ) → Ok a ≡ refused n at → B
not_refused a n at e = let z : ◌≡◌ {A = ℕ} 0 1 = cc in absurd (omega arith)

pub answers_ok : {A : Type 0} (f : Fault) (a : A) (r : Answer A) → r ≡ or_else f (Ok a) → Answers f r
answers_ok f a r e = answers_of f (Ok a) r e (λ n at q k. not_refused a n at k)

module _ {A : Type 0} {f : Fault} {r : Answer A} (a : Answers f r) where
  pub fault_is : (n at : ℕ) → r ≡ refused n at → f ≡ Err (refusal n at)
  fault_is n at e = go f refl
    where
      go : (x : Fault) → f ≡ x → f ≡ Err (refusal n at)
      go (Ok _) q = absurd (a.never q n at e)
      go (Err k) q = let o = refused_one k.number k.at n at (sym (a.given k.number k.at q) ∙ e) in q ∙ rw (o.0, o.1)

  -- a refusal is given exactly as the chain says, demand by demand
  pub exactly_refused : {R : ℕ → ℕ → Type 0} → Chain f R → (n at : ℕ) → (r ≡ refused n at) ↔ R n at
  exactly_refused c n at = (λ e. (c.exactly n at).0 (fault_is n at e), λ h. a.given n at ((c.exactly n at).1 h))

  -- what is allowed is answered, and what is answered is allowed
  pub is_answered : {Allowed : Type 0} → (Allowed → f ≡ Ok tt) → Allowed → (n at : ℕ) → r ≡ refused n at → ⊥
  is_answered of_allowed h n at e = a.never (of_allowed h) n at e

  pub is_allowed : {Allowed : Type 0} → (f ≡ Ok tt → Allowed) → ((n at : ℕ) → r ≡ refused n at → ⊥) → Allowed
  is_allowed {Allowed} Allowed-of none = go f refl
    where
      go : (x : Fault) → f ≡ x → Allowed
      go (Ok _) q = Allowed-of q
      go (Err k) q = absurd (none k.number k.at (a.given k.number k.at q))
