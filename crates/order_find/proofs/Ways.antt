-- What is to be found, one step on: a step that is open has a letter to take, and the way from a place is the one step's, else the other's. Assumes nothing.
use Prim.Native.Nat.{ℕ, zero, suc, ◌+◌, ◌-◌, ◌≤◌, ◌<◌}
use mathlib.Core.Path.{◌≡◌, refl, ◌∙◌, ap}
use mathlib.Core.Bool.{Bool, true, false, ◌&&◌}
use mathlib.Core.List.{List, []}
use native.Mathlib.Omega.{arith}
use lib.ListN.{length}
use lib.Dec.{ltb}
use borrow.Author.Tests.{ltb-true, lt-ltb, le-ltb}
use Rattle.ground.proofs.Tests.{and-true}
use Rattle.net.specs.Net.{Net}
use Rattle.net.specs.Letter.{arcs_at, passes, fired_at}
use Rattle.orders.specs.Orders.{Recorded, logs_of}
use Rattle.orders.specs.Search.{Way, no_order, an_order, letter_at, open_to, onto, else_way, step, order_from, left_of}
use Rattle.order_find.specs.Walk.{way_from, way_by}
use Rattle.order_find.proofs.Letters.{there}

-- the letters read after a step are there to be read, and one fewer is left
pub record Onward (logs : Recorded) (which n k : ℕ) : Type 0 where
  pub first : n + (1 - which) ≤ length logs.first
  pub second : k + which ≤ length logs.second
  pub fewer : left_of logs n k ≡ suc (left_of logs (n + (1 - which)) (k + which))
  pub steps : n + (1 - which) + (k + which) ≡ n + k + 1

pub onward : (logs : Recorded) (which n k : ℕ) → which < 2 → n ≤ length logs.first → k ≤ length logs.second → letter_at logs which n k < logs.net.transitions → Onward logs which n k
onward logs zero n k w a b h =
    let l = there logs.first n logs.net.transitions h in
    record { first = omega arith; second = omega arith; fewer = omega arith; steps = omega arith }
onward logs (suc zero) n k w a b h =
    let l = there logs.second k logs.net.transitions h in
    record { first = omega arith; second = omega arith; fewer = omega arith; steps = omega arith }
onward logs (suc (suc x)) n k w a b h = absurd (omega arith)

-- a step that is open has a letter, which passes
pub open_letter : (logs : Recorded) (which n k : ℕ) (m : List ℕ) → open_to logs which n k m ≡ true → letter_at logs which n k < logs.net.transitions
open_letter logs which n k m e = ltb-true (letter_at logs which n k) logs.net.transitions (and-true (ltb (letter_at logs which n k) logs.net.transitions) (logs.may which n k && passes (arcs_at logs.net (letter_at logs which n k)) m) e).0

-- without clocks a step is open where its letter is one and passes
module _ (net : Net) (first second : List ℕ) (which n k : ℕ) (m : List ℕ) (t : ℕ) (et : t ≡ letter_at (logs_of net first second) which n k) where
  pub open_yes : t < net.transitions → passes (arcs_at net t) m ≡ true → open_to (logs_of net first second) which n k m ≡ true
  open_yes h e = rw (← et, lt-ltb t net.transitions h) e

  pub open_out : net.transitions ≤ t → open_to (logs_of net first second) which n k m ≡ false
  open_out h = rw (← et, le-ltb t net.transitions h)

  pub open_no : t < net.transitions → passes (arcs_at net t) m ≡ false → open_to (logs_of net first second) which n k m ≡ false
  open_no h e = rw (← et, lt-ltb t net.transitions h) e

module _ (logs : Recorded) (which n k : ℕ) (m : List ℕ) where
  -- the way by a step that is closed, and by one that is open
  pub by_closed : open_to logs which n k m ≡ false → way_by logs which n k m ≡ no_order
  by_closed e = rw e

  pub by_open : open_to logs which n k m ≡ true → way_by logs which n k m ≡ onto which (way_from logs (n + (1 - which)) (k + which) (fired_at logs.net (letter_at logs which n k) m))
  by_open e = rw e

  -- two rests that agree where the step leads make one way
  step_same : (f g : List ℕ → Way) → (open_to logs which n k m ≡ true → f (fired_at logs.net (letter_at logs which n k) m) ≡ g (fired_at logs.net (letter_at logs which n k) m)) → step logs which n k m f ≡ step logs which n k m g
  step_same f g h = go (open_to logs which n k m) refl
    where
      go : (b : Bool) → open_to logs which n k m ≡ b → step logs which n k m f ≡ step logs which n k m g
      go true e = rw e (ap (onto which) (h e))
      go false e = rw e

module _ (logs : Recorded) (n k : ℕ) (m : List ℕ) where
  -- nothing is left: the empty order
  pub way_end : n ≤ length logs.first → k ≤ length logs.second → n + k ≡ length logs.first + length logs.second → way_from logs n k m ≡ an_order []
  unfolding order_from
  way_end a b e = let z : left_of logs n k ≡ 0 = omega arith in rw z

  way_suc : (left : ℕ) → n ≤ length logs.first → k ≤ length logs.second → left_of logs n k ≡ suc left → order_from logs (suc left) n k m ≡ else_way (way_by logs 0 n k m) (way_by logs 1 n k m)
  unfolding order_from
  way_suc left a b e =
      ap (λ (w : Way). else_way w (step logs 1 n k m (λ m'. order_from logs left n (k + 1) m')))
      (step_same logs 0 n k m (λ m'. order_from logs left (n + 1) k m') (λ m'. order_from logs (left_of logs (n + (1 - 0)) (k + 0)) (n + (1 - 0)) (k + 0) m')
      (λ h.
      let f = (onward logs 0 n k (omega arith) a b (open_letter logs 0 n k m h)).fewer in
      at_same left (left_of logs (n + (1 - 0)) (k + 0)) (n + 1) (n + (1 - 0)) k (k + 0) (fired_at logs.net (letter_at logs 0 n k) m) (omega arith) (omega arith) (omega arith)))
      ∙ ap (else_way (way_by logs 0 n k m))
      (step_same logs 1 n k m (λ m'. order_from logs left n (k + 1) m') (λ m'. order_from logs (left_of logs (n + (1 - 1)) (k + 1)) (n + (1 - 1)) (k + 1) m')
      (λ h.
      let f = (onward logs 1 n k (omega arith) a b (open_letter logs 1 n k m h)).fewer in
      at_same left (left_of logs (n + (1 - 1)) (k + 1)) n (n + (1 - 1)) (k + 1) (k + 1) (fired_at logs.net (letter_at logs 1 n k) m) (omega arith) (omega arith) (omega arith)))
    where
      at_same : (l l' i i' j j' : ℕ) (m : List ℕ) → l ≡ l' → i ≡ i' → j ≡ j' → order_from logs l i j m ≡ order_from logs l' i' j' m
      at_same l l' i i' j j' m p q r = rw (p, q, r)

  -- something is left: by the first log, else by the second
  pub way_more : n ≤ length logs.first → k ≤ length logs.second → (n + k ≡ length logs.first + length logs.second → ⊥) → way_from logs n k m ≡ else_way (way_by logs 0 n k m) (way_by logs 1 n k m)
  way_more a b e = go (left_of logs n k) refl
    where
      go : (l : ℕ) → left_of logs n k ≡ l → way_from logs n k m ≡ else_way (way_by logs 0 n k m) (way_by logs 1 n k m)
      go zero q = absurd (e (omega arith))
      go (suc l) q = ap (λ (j : ℕ). order_from logs j n k m) q ∙ way_suc l a b q
