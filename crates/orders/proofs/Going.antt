-- The order found is one that goes on step by step, and every order that does so is found or is later than one that is. Assumes nothing.
use Prim.Native.Nat.{ℕ, zero, suc, ◌+◌, ◌≤◌, ◌<◌}
use mathlib.Core.Path.{◌≡◌, refl, ap}
use mathlib.Core.Bool.{Bool, true, false, cond}
use mathlib.Core.List.{List, [], ◌∷◌}
use mathlib.Core.Logic.{◌⊎◌, inl, inr, ⊎_elim}
use native.Mathlib.Omega.{arith}
use native.Mathlib.Decide.{dec_lt}
use lib.ListN.{length, get_or, get_or-eq_default}
use borrow.Author.Tests.{ltb-true}
use Rattle.ground.proofs.Tests.{and-true}
use Rattle.net.specs.Letter.{fired_at}
use Rattle.orders.specs.Orders.{Recorded, Earlier}
use Rattle.orders.specs.Search.{Way, no_order, an_order, letter_at, open_to, onto, else_way, step, order_from, left_of}
use Rattle.orders.proofs.Earliest.{earlier_here, earlier_next}

-- the marking after a step that takes from log `which`
abbrev pub stepped : Recorded → ℕ → ℕ → ℕ → List ℕ → List ℕ
stepped logs which n k m = fired_at logs.net (letter_at logs which n k) m

-- each step of the order has its letter, which may be taken and is enabled, and at the end no letter is left
abbrev pub Goes : Recorded → List ℕ → ℕ → ℕ → List ℕ → Type 0
Goes logs [] n k m = (length logs.first ≤ n) × (length logs.second ≤ k)
Goes logs (zero ∷ order) n k m = (open_to logs 0 n k m ≡ true) × Goes logs order (n + 1) k (stepped logs 0 n k m)
Goes logs (suc zero ∷ order) n k m = (open_to logs 1 n k m ≡ true) × Goes logs order n (k + 1) (stepped logs 1 n k m)
Goes logs (suc (suc x) ∷ order) n k m = ⊥

-- no order is not an order
pub not_none : {A : Type 0} {order : List ℕ} → no_order ≡ an_order order → A
not_none e = let z : ◌≡◌ {A = ℕ} 0 1 = cc in absurd (omega arith)

-- what a step that was found says
step_in : (b : Bool) (which : ℕ) (w : Way) (order : List ℕ) → cond b (onto which w) no_order ≡ an_order order → (rest : List ℕ) × (b ≡ true) × (w ≡ an_order rest) × (order ≡ which ∷ rest)
step_in true which no_order order e = not_none e
step_in true which (an_order rest) order e = (rest, refl, refl, cc)
step_in false which w order e = not_none e

else_in : (a b : Way) (order : List ℕ) → else_way a b ≡ an_order order → (a ≡ an_order order) ⊎ ((a ≡ no_order) × (b ≡ an_order order))
else_in no_order b order e = inr (refl, e)
else_in (an_order o) b order e = inl e

-- a log has a letter where the one read names a transition
in_log : (T : ℕ) (log : List ℕ) (n : ℕ) → get_or log n T < T → n < length log
in_log T log n h = go (dec_lt n (length log))
  where
    go : Dec (n < length log) → n < length log
    go (yes l) = l
    go (no l) = let e = get_or-eq_default log T {n = n} (omega arith) in absurd (omega arith)

-- a step that may be taken has a letter left
pub open_first : (logs : Recorded) (n k : ℕ) (m : List ℕ) → open_to logs 0 n k m ≡ true → n < length logs.first
open_first logs n k m e = in_log logs.net.transitions logs.first n (ltb-true _ _ (and-true _ _ e).0)

pub open_second : (logs : Recorded) (n k : ℕ) (m : List ℕ) → open_to logs 1 n k m ≡ true → k < length logs.second
open_second logs n k m e = in_log logs.net.transitions logs.second k (ltb-true _ _ (and-true _ _ e).0)

-- the order found goes
pub way_goes : (logs : Recorded) (left n k : ℕ) (m order : List ℕ) → left ≡ left_of logs n k → order_from logs left n k m ≡ an_order order → Goes logs order n k m
unfolding order_from
way_goes logs zero n k m order l e = let q : order ≡ [] = cc in rw q (omega arith, omega arith)
way_goes logs (suc left) n k m order l e =
    ⊎_elim
    (λ s.
    let r = step_in (open_to logs 0 n k m) 0 (order_from logs left (n + 1) k (stepped logs 0 n k m)) order s in
    let h = open_first logs n k m r.1 in
    rw r.3 (r.1, way_goes logs left (n + 1) k (stepped logs 0 n k m) r.0 (omega arith) r.2))
    (λ s.
    let r = step_in (open_to logs 1 n k m) 1 (order_from logs left n (k + 1) (stepped logs 1 n k m)) order s.1 in
    let h = open_second logs n k m r.1 in
    rw r.3 (r.1, way_goes logs left n (k + 1) (stepped logs 1 n k m) r.0 (omega arith) r.2))
    (else_in (step logs 0 n k m (λ m'. order_from logs left (n + 1) k m')) (step logs 1 n k m (λ m'. order_from logs left n (k + 1) m')) order e)

-- an order that goes has a step for each letter left
pub goes_long : (logs : Recorded) (order : List ℕ) (n k : ℕ) (m : List ℕ) → Goes logs order n k m → length order ≡ left_of logs n k
goes_long logs [] n k m g = omega arith
goes_long logs (zero ∷ order) n k m g = omega (arith, open_first logs n k m g.0, goes_long logs order (n + 1) k (stepped logs 0 n k m) g.1)
goes_long logs (suc zero ∷ order) n k m g = omega (arith, open_second logs n k m g.0, goes_long logs order n (k + 1) (stepped logs 1 n k m) g.1)
goes_long logs (suc (suc x) ∷ order) n k m g = absurd g

-- the order is found, or an earlier one
pub record Found (way : Way) (order : List ℕ) : Type 0 where
  pub given : List ℕ
  pub is : way ≡ an_order given
  pub first : (given ≡ order) ⊎ Earlier given order

-- a step further, by the one way or the other
step_found : (b : Bool) (which : ℕ) (w : Way) (order : List ℕ) → b ≡ true → Found w order → Found (cond b (onto which w) no_order) (which ∷ order)
step_found b which w order p f =
    record {
      given = which ∷ f.given;
      is = rw (p, f.is);
      first = ⊎_elim (λ e. inl (ap (λ (l : List ℕ). which ∷ l) e)) (λ e. inr (earlier_next which e)) f.first;
    }

one_found : (w other : Way) (order : List ℕ) → Found w order → Found (else_way w other) order
one_found w other order f = record { given = f.given; is = rw f.is; first = f.first }

other_found : (b : Bool) (w other : Way) (order : List ℕ) → Found other (1 ∷ order) → Found (else_way (cond b (onto 0 w) no_order) other) (1 ∷ order)
other_found false w other order f = f
other_found true no_order other order f = f
other_found true (an_order rest) other order f = record { given = 0 ∷ rest; is = refl; first = inr (earlier_here rest order) }

-- of every order that goes, itself or an earlier one is found
pub goes_found : (logs : Recorded) (order : List ℕ) (n k : ℕ) (m : List ℕ) → Goes logs order n k m → Found (order_from logs (length order) n k m) order
unfolding order_from
goes_found logs [] n k m g = record { given = []; is = refl; first = inl refl }
goes_found logs (zero ∷ order) n k m g =
    let f = goes_found logs order (n + 1) k (stepped logs 0 n k m) g.1 in
    let w = order_from logs (length order) (n + 1) k (stepped logs 0 n k m) in
    one_found (cond (open_to logs 0 n k m) (onto 0 w) no_order) (step logs 1 n k m (λ m'. order_from logs (length order) n (k + 1) m')) (0 ∷ order)
    (step_found (open_to logs 0 n k m) 0 w order g.0 f)
goes_found logs (suc zero ∷ order) n k m g =
    let f = goes_found logs order n (k + 1) (stepped logs 1 n k m) g.1 in
    let w = order_from logs (length order) n (k + 1) (stepped logs 1 n k m) in
    other_found (open_to logs 0 n k m) (order_from logs (length order) (n + 1) k (stepped logs 0 n k m)) (cond (open_to logs 1 n k m) (onto 1 w) no_order) order
    (step_found (open_to logs 1 n k m) 1 w order g.0 f)
goes_found logs (suc (suc x) ∷ order) n k m g = absurd g
