-- Markings that come from the same start, and what the work space remembers of them. Assumes nothing.
use Prim.Native.Nat.{ℕ, zero, suc, ◌+◌, ◌-◌, ◌≤◌, ◌<◌}
use mathlib.Core.Path.{◌≡◌, refl, sym, ◌∙◌}
use mathlib.Core.Bool.{Bool, true, false}
use mathlib.Core.List.{List}
use native.Mathlib.Omega.{arith}
use lib.ListN.{length, get_or, set}
use lib.Seq.{ext_get_or, get_or-set_other}
use lib.Dec.{eqb}
use borrow.Author.Tests.{eqb-true, eqb-false}
use Rattle.net.specs.Letter.{arcs_at, passes, fired_at}
use Rattle.orders.specs.Orders.{Recorded}
use Rattle.orders.specs.Lengths.{log_limit}
use Rattle.orders.specs.Search.{no_order, letter_at, order_from, left_of}
use Rattle.order_find.specs.Walk.{Alike, Remembers, cell_of, way_from}
use Rattle.order_find.proofs.Letters.{there}
use Rattle.order_find.proofs.Sums.{taken_next, put_next}
use Rattle.order_find.proofs.Firing.{fired_long, fired_at_lem}

module _ (logs : Recorded) where
  -- to come from the same start is an equivalence
  pub alike_own : (n k : ℕ) (m : List ℕ) → Alike logs n k m n k m
  alike_own n k m = record { long = refl; at = λ p h. refl }

  pub alike_turned : {n k n' k' : ℕ} {m m' : List ℕ} → Alike logs n k m n' k' m' → Alike logs n' k' m' n k m
  alike_turned a = record { long = sym a.long; at = λ p h. sym (a.at p (rw (← a.long) h)) }

  pub alike_both : {n k n' k' n'' k'' : ℕ} {m m' m'' : List ℕ} → Alike logs n k m n' k' m' → Alike logs n' k' m' n'' k'' m'' → Alike logs n k m n'' k'' m''
  alike_both {n} {k} {n'} {k'} {n''} {k''} {m} {m'} {m''} a b =
      record {
        long = b.long ∙ a.long;
        at = λ p h. omega (arith, a.at p h, b.at p (rw a.long h));
      }

  -- however its letters came, a marking with n and k letters read is one
  pub alike_one : (n k : ℕ) (m m' : List ℕ) → Alike logs n k m n k m' → m' ≡ m
  alike_one n k m m' a =
      ext_get_or 0 m' m a.long
      (λ p h. let q = a.at p (rw (← a.long) h) in omega arith)

  -- a step stays with the same start
  pub alike_step :
      (which n k : ℕ) (m : List ℕ) → which < 2 → length m ≡ logs.net.places → letter_at logs which n k < logs.net.transitions
      → passes (arcs_at logs.net (letter_at logs which n k)) m ≡ true
      → Alike logs n k m (n + (1 - which)) (k + which) (fired_at logs.net (letter_at logs which n k) m)
  alike_step zero n k m w long h e =
      let o : k + 0 ≡ k = omega arith in
      record {
        long = fired_long logs.net (letter_at logs 0 n k) m long e;
        at = λ p l.
            rw o
            (omega (
              arith,
              fired_at_lem logs.net (letter_at logs 0 n k) m long e p l,
              taken_next logs.net p logs.net.transitions logs.first n (there logs.first n logs.net.transitions h),
              put_next logs.net p logs.net.transitions logs.first n (there logs.first n logs.net.transitions h),
            ));
      }
  alike_step (suc zero) n k m w long h e =
      let o : n + (1 - 1) ≡ n = omega arith in
      record {
        long = fired_long logs.net (letter_at logs 1 n k) m long e;
        at = λ p l.
            rw o
            (omega (
              arith,
              fired_at_lem logs.net (letter_at logs 1 n k) m long e p l,
              taken_next logs.net p logs.net.transitions logs.second k (there logs.second k logs.net.transitions h),
              put_next logs.net p logs.net.transitions logs.second k (there logs.second k logs.net.transitions h),
            ));
      }
  alike_step (suc (suc x)) n k m w long h e = absurd (omega arith)

  -- what is remembered is so wherever one stands on the way from that start
  pub remembers_along : {n k n' k' : ℕ} {m m' work : List ℕ} → Alike logs n k m n' k' m' → Remembers logs n k m work → Remembers logs n' k' m' work
  remembers_along a r = record { dead = λ i j x b c z s. r.dead i j x b c z (alike_both a s) }

  pub remembers_back : {n k n' k' : ℕ} {m m' work : List ℕ} → Alike logs n k m n' k' m' → Remembers logs n' k' m' work → Remembers logs n k m work
  remembers_back a r = remembers_along (alike_turned a) r

  module _ (n k : ℕ) (m work : List ℕ) (r : Remembers logs n k m work) (a : n ≤ length logs.first) (b : k ≤ length logs.second) where
    -- one more dead end may be remembered
    pub remembers_more : length logs.first ≤ log_limit → length logs.second ≤ log_limit → way_from logs n k m ≡ no_order → Remembers logs n k m (set work (cell_of n k) 1)
    remembers_more few few' w = record { dead = λ i j x f g z s. go i j x f g z s (eqb (cell_of i j) (cell_of n k)) refl }
      where
        go : (i j : ℕ) (x : List ℕ) → i ≤ length logs.first → j ≤ length logs.second → (get_or (set work (cell_of n k) 1) (cell_of i j) 0 ≡ 0 → ⊥) → Alike logs n k m i j x → (t : Bool) → eqb (cell_of i j) (cell_of n k) ≡ t → order_from logs (left_of logs i j) i j x ≡ no_order
        go i j x f g z s true q =
            let y = eqb-true (cell_of i j) (cell_of n k) q in
            let p : i ≡ n = omega arith in
            let o : j ≡ k = omega arith in
            rw (p, o, alike_one n k m x (rw (p, o) at s)) w
        go i j x f g z s false q = r.dead i j x f g (λ y. z (get_or-set_other work (cell_of n k) (cell_of i j) 1 0 (eqb-false (cell_of i j) (cell_of n k) q) ∙ y)) s
