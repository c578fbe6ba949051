-- An order that goes on step by step by the code's tests is one of the two logs' whose word fires by the published relation, and the other way round. Assumes nothing.
use Prim.Native.Nat.{ℕ, zero, suc, ◌+◌, ◌<◌}
use mathlib.Core.Path.{◌≡◌, refl, sym, ap, ◌∙◌}
use mathlib.Core.Bool.{Bool, true, ◌&&◌}
use mathlib.Core.List.{List, [], ◌∷◌}
use native.Mathlib.Omega.{arith}
use native.Mathlib.Nat.{not-suc-le-zero, le_of_suc-le-suc, add-zero, add_assoc}
use native.Mathlib.Numerals.{add-one}
use lib.ListN.{length, get_or, take, drop, length-drop}
use lib.Seq.{drop-cons}
use lib.Dec.{eqb}
use borrow.Author.Tests.{ltb-true, lt-ltb}
use Rattle.ground.specs.Lists.{bit}
use Rattle.ground.proofs.Tests.{and-true, and_next}
use Rattle.net.specs.Firing.{Firing, Fires, nothing, letter}
use Rattle.net.specs.Letter.{arcs_at, passes}
use Rattle.net.proofs.Judged.{enabled_of, passes_of, gives_fired}
use Rattle.net.proofs.Meaning.{gives_one, fires_cons}
use Rattle.orders.specs.Orders.{count, OrderOf, woven, Recorded, KeptFrom}
use Rattle.orders.specs.Search.{letter_at, open_to}
use Rattle.orders.proofs.Weaving.{no_third}
use Rattle.orders.proofs.Going.{stepped, Goes, open_first, open_second}

-- what `Runs` says, n letters of the first log and k of the second having been read
pub record RunsFrom (logs : Recorded) (n k : ℕ) (m order : List ℕ) : Type 0 where
  pub of_both : OrderOf (drop n logs.first) (drop k logs.second) order
  pub kept : KeptFrom logs.may n k order
  pub reached : List ℕ
  pub fires : Fires logs.net m (woven order (drop n logs.first) (drop k logs.second)) reached

-- `KeptFrom`, one step further
module _ (may : ℕ → ℕ → ℕ → Bool) (n k x : ℕ) (order : List ℕ) (n' k' : ℕ) (p : n' ≡ n + bit (eqb x 0)) (q : k' ≡ k + bit (eqb x 1)) where
  kept_cons : may x n k ≡ true → KeptFrom may n' k' order → KeptFrom may n k (x ∷ order)
  unfolding count
  kept_cons a h = record { at = go }
    where
      go : (j : ℕ) → j < length (x ∷ order) → may (get_or (x ∷ order) j 0) (n + count 0 (take j (x ∷ order))) (k + count 1 (take j (x ∷ order))) ≡ true
      go zero l = rw (add-zero n, add-zero k) a
      go (suc j) l = rw (← add_assoc n (bit (eqb x 0)) (count 0 (take j order)), ← add_assoc k (bit (eqb x 1)) (count 1 (take j order)), ← p, ← q) (h.at j (le_of_suc-le-suc l))

  kept_tail : KeptFrom may n k (x ∷ order) → KeptFrom may n' k' order
  unfolding count
  kept_tail h =
      record {
        at = λ j l. rw (p, q, add_assoc n (bit (eqb x 0)) (count 0 (take j order)), add_assoc k (bit (eqb x 1)) (count 1 (take j order))) (h.at (suc j) (omega arith));
      }

kept_head : (may : ℕ → ℕ → ℕ → Bool) (n k x : ℕ) (order : List ℕ) → KeptFrom may n k (x ∷ order) → may x n k ≡ true
unfolding count
kept_head may n k x order h = rw (add-zero n, add-zero k) at (h.at 0 (omega arith))

-- the letters left, one step further
drop_next : (T : ℕ) (log : List ℕ) (n : ℕ) → n < length log → drop n log ≡ get_or log n T ∷ drop (n + 1) log
drop_next T log n h = drop-cons log n T h ∙ ap (λ (j : ℕ). get_or log n T ∷ drop j log) (sym (add-one n))

woven_first : (T : ℕ) (first v order : List ℕ) (n : ℕ) → n < length first → woven (0 ∷ order) (drop n first) v ≡ get_or first n T ∷ woven order (drop (n + 1) first) v
unfolding woven
woven_first T first v order n h = ap (λ (l : List ℕ). woven (0 ∷ order) l v) (drop_next T first n h)

woven_second : (T : ℕ) (u second order : List ℕ) (k : ℕ) → k < length second → woven (1 ∷ order) u (drop k second) ≡ get_or second k T ∷ woven order u (drop (k + 1) second)
unfolding woven
woven_second T u second order k h = ap (λ (l : List ℕ). woven (1 ∷ order) u l) (drop_next T second k h)

both_true : (a b : Bool) → a ≡ true → b ≡ true → (a && b) ≡ true
both_true a b p q = sym (and_next a true b p (sym q))

-- a step that may be taken fires its letter, and one that fires it and is kept may be taken
module _ (logs : Recorded) (which n k : ℕ) (m : List ℕ) (long : length m ≡ logs.net.places) where
  step_parts : open_to logs which n k m ≡ true → (letter_at logs which n k < logs.net.transitions) × (logs.may which n k ≡ true) × (passes (arcs_at logs.net (letter_at logs which n k)) m ≡ true)
  step_parts e =
      let a = and-true _ (logs.may which n k && passes (arcs_at logs.net (letter_at logs which n k)) m) e in
      let b = and-true (logs.may which n k) (passes (arcs_at logs.net (letter_at logs which n k)) m) a.1 in
      (ltb-true _ _ a.0, b.0, b.1)

  step_fires : open_to logs which n k m ≡ true → Firing logs.net m (letter_at logs which n k) (stepped logs which n k m)
  step_fires e =
      let a = step_parts e in
      let en = enabled_of logs.net m (letter_at logs which n k) long a.2 in
      record { named = a.0; enabled = en; gives = gives_fired logs.net m (letter_at logs which n k) long en }

  fires_step : (m' : List ℕ) → logs.may which n k ≡ true → Firing logs.net m (letter_at logs which n k) m' → open_to logs which n k m ≡ true
  fires_step m' a f = both_true _ _ (lt-ltb _ _ f.named) (both_true _ _ a (passes_of logs.net m (letter_at logs which n k) long f.enabled))

  fires_stepped : (m' : List ℕ) → Firing logs.net m (letter_at logs which n k) m' → m' ≡ stepped logs which n k m
  fires_stepped m' f = gives_one f.gives (gives_fired logs.net m (letter_at logs which n k) long f.enabled)

-- an order that goes runs
pub goes_runs : (logs : Recorded) (order : List ℕ) (n k : ℕ) (m : List ℕ) → length m ≡ logs.net.places → Goes logs order n k m → RunsFrom logs n k m order
unfolding count woven
goes_runs logs [] n k m long g =
    record {
      of_both = omega (arith, length-drop n logs.first, length-drop k logs.second);
      kept = record { at = λ j h. absurd (not-suc-le-zero h) };
      reached = m;
      fires = nothing;
    }
goes_runs logs (zero ∷ order) n k m long g =
    let f = step_fires logs 0 n k m long g.0 in
    let h = open_first logs n k m g.0 in
    let r = goes_runs logs order (n + 1) k (stepped logs 0 n k m) f.gives.long g.1 in
    record {
      of_both = omega (arith, r.of_both, length-drop n logs.first, length-drop (n + 1) logs.first);
      kept = kept_cons logs.may n k 0 order (n + 1) k refl (sym (add-zero k)) (step_parts logs 0 n k m long g.0).1 r.kept;
      reached = r.reached;
      fires = rw (woven_first logs.net.transitions logs.first (drop k logs.second) order n h) (letter f r.fires);
    }
goes_runs logs (suc zero ∷ order) n k m long g =
    let f = step_fires logs 1 n k m long g.0 in
    let h = open_second logs n k m g.0 in
    let r = goes_runs logs order n (k + 1) (stepped logs 1 n k m) f.gives.long g.1 in
    record {
      of_both = omega (arith, r.of_both, length-drop k logs.second, length-drop (k + 1) logs.second);
      kept = kept_cons logs.may n k 1 order n (k + 1) (sym (add-zero n)) refl (step_parts logs 1 n k m long g.0).1 r.kept;
      reached = r.reached;
      fires = rw (woven_second logs.net.transitions (drop n logs.first) logs.second order k h) (letter f r.fires);
    }
goes_runs logs (suc (suc x) ∷ order) n k m long g = absurd g

-- an order that runs goes
pub runs_goes : (logs : Recorded) (order : List ℕ) (n k : ℕ) (m : List ℕ) → length m ≡ logs.net.places → RunsFrom logs n k m order → Goes logs order n k m
unfolding count
runs_goes logs [] n k m long r = omega (arith, r.of_both, length-drop n logs.first, length-drop k logs.second)
runs_goes logs (zero ∷ order) n k m long r =
    let h : n < length logs.first = omega (arith, r.of_both.zeros, length-drop n logs.first) in
    let c = fires_cons (rw (woven_first logs.net.transitions logs.first (drop k logs.second) order n h) at r.fires) in
    let a = kept_head logs.may n k 0 order r.kept in (
      fires_step logs 0 n k m long c.0 a c.1,
      runs_goes logs order (n + 1) k (stepped logs 0 n k m) (gives_fired logs.net m (letter_at logs 0 n k) long c.1.enabled).long
          (record {
            of_both = omega (arith, r.of_both, length-drop n logs.first, length-drop (n + 1) logs.first);
            kept = kept_tail logs.may n k 0 order (n + 1) k refl (sym (add-zero k)) r.kept;
            reached = r.reached;
            fires = rw (fires_stepped logs 0 n k m long c.0 c.1) at c.2;
          }),
    )
runs_goes logs (suc zero ∷ order) n k m long r =
    let h : k < length logs.second = omega (arith, r.of_both.ones, length-drop k logs.second) in
    let c = fires_cons (rw (woven_second logs.net.transitions (drop n logs.first) logs.second order k h) at r.fires) in
    let a = kept_head logs.may n k 1 order r.kept in (
      fires_step logs 1 n k m long c.0 a c.1,
      runs_goes logs order n (k + 1) (stepped logs 1 n k m) (gives_fired logs.net m (letter_at logs 1 n k) long c.1.enabled).long
          (record {
            of_both = omega (arith, r.of_both, length-drop k logs.second, length-drop (k + 1) logs.second);
            kept = kept_tail logs.may n k 1 order n (k + 1) (sym (add-zero n)) refl r.kept;
            reached = r.reached;
            fires = rw (fires_stepped logs 1 n k m long c.0 c.1) at c.2;
          }),
    )
runs_goes logs (suc (suc x) ∷ order) n k m long r = absurd (no_third x _ _ order r.of_both)
