-- What the order found means: the demands of document 02's E3, over the published relation, whatever else the steps must keep to. Assumes nothing.
use Prim.Native.Nat.{ℕ, ◌+◌}
use mathlib.Core.Path.{◌≡◌, refl, sym, ap, ◌∙◌}
use mathlib.Core.List.{List}
use mathlib.Core.Logic.{◌⊎◌, ⊎_elim}
use lib.ListN.{length, take}
use Rattle.net.specs.Net.{Net}
use Rattle.net.specs.Firing.{Fires}
use Rattle.refusals.specs.Given.{Letters}
use Rattle.orders.specs.Orders.{count, OrderOf, woven, picked, Earlier, Recorded, Runs}
use Rattle.orders.specs.Search.{Way, no_order, an_order, left_of, way_of}
use Rattle.orders.proofs.Weaving.{weaves, pick_first, pick_second, woven_length, letters_woven, steps_two, weaves_read, woven_read}
use Rattle.orders.proofs.Sums.{marking_one}
use Rattle.orders.proofs.Earliest.{not_both, one_earlier}
use Rattle.orders.proofs.Going.{Goes, Found, not_none, way_goes, goes_long, goes_found}
use Rattle.orders.proofs.Running.{goes_runs, runs_goes}

-- "keeps each log's own order": the letters that an order takes from a log are that log
pub keeps_order : {first second order : List ℕ} → OrderOf first second order → (picked 0 order (woven order first second) ≡ first) × (picked 1 order (woven order first second) ≡ second)
keeps_order o = let w = weaves _ _ _ o in (pick_first w, pick_second w)

-- the word that an order makes has as many letters as both logs
pub woven_long : {first second order : List ℕ} → OrderOf first second order → length (woven order first second) ≡ length first + length second
woven_long o = woven_length (weaves _ _ _ o)

-- .. and none that names no transition
pub woven_letters : (T : ℕ) (first second order : List ℕ) → Letters T first → Letters T second → Letters T (woven order first second)
woven_letters T first second order a b = letters_woven T order first second a b

-- "The order is a list of 0 and 1"
pub order_steps : {first second order : List ℕ} → OrderOf first second order → Letters 2 order
order_steps o = steps_two (weaves _ _ _ o)

-- "After n letters of one and k of the other the marking is the same however they came"
pub one_marking : (net : Net) (m u v order other m' m'' : List ℕ) → OrderOf u v order → OrderOf u v other → Fires net m (woven order u v) m' → Fires net m (woven other u v) m'' → m' ≡ m''
one_marking net m u v order other m' m'' a b f g = marking_one (weaves u v order a) (weaves u v other b) f g

module _ (net : Net) (m first second order other : List ℕ) (a : OrderOf first second order) (b : OrderOf first second other) where
  -- .. so too on the way: after i steps of one order and j of another that have read as many letters of each log the marking is the same
  pub read_marking : (i j : ℕ) (m' m'' : List ℕ) → count 0 (take i order) ≡ count 0 (take j other) → count 1 (take i order) ≡ count 1 (take j other)
      → Fires net m (take i (woven order first second)) m' → Fires net m (take j (woven other first second)) m'' → m' ≡ m''
  read_marking i j m' m'' n k f g =
      let w = weaves first second order a in
      let x = weaves first second other b in
      marking_one (rw (n, k) at (weaves_read w i)) (weaves_read x j)
      (rw (n, k) at (rw (← woven_read w i) at f))
      (rw (← woven_read x j) at g)

-- of two orders at most one is the earlier
pub earlier_apart : {a b : List ℕ} → Earlier a b → Earlier b a → ⊥
earlier_apart = not_both

-- of two orders of the same two logs that differ one is the earlier, so that of several there is one first
pub earlier_total : {u v a b : List ℕ} → OrderOf u v a → OrderOf u v b → (a ≡ b) ⊎ (Earlier a b ⊎ Earlier b a)
earlier_total p q = one_earlier (weaves _ _ _ p) (weaves _ _ _ q)

module _ (logs : Recorded) (m : List ℕ) (long : length m ≡ logs.net.places) where
  -- an order that runs goes, step by step from the start
  from_runs : (order : List ℕ) → Runs logs m order → Goes logs order 0 0 m
  from_runs order r = runs_goes logs order 0 0 m long (record { of_both = r.of_both; kept = r.kept; reached = r.reached; fires = r.fires })

  -- .. so it or an earlier one is found
  runs_found : (order : List ℕ) → Runs logs m order → Found (way_of logs m) order
  runs_found order r =
      let g = from_runs order r in
      rw (← goes_long logs order 0 0 m g) (goes_found logs order 0 0 m g)

  -- "an order that keeps each log's own order and fires": the order found is one
  pub way_runs : {order : List ℕ} → way_of logs m ≡ an_order order → Runs logs m order
  way_runs {order} e =
      let r = goes_runs logs order 0 0 m long (way_goes logs (left_of logs 0 0) 0 0 m order refl e) in
      record { of_both = r.of_both; kept = r.kept; reached = r.reached; fires = r.fires }

  -- "Of several, give the one that takes from the first log at the earliest place where two differ": it is earlier than any other that runs
  pub way_earliest : {order : List ℕ} → way_of logs m ≡ an_order order → (other : List ℕ) → Runs logs m other → (order ≡ other) ⊎ Earlier order other
  way_earliest {order} e other r =
      let f = runs_found other r in
      let q : f.given ≡ order = cc in
      rw q at f.first

  -- .. and none that runs is earlier than it
  pub way_first : {order : List ℕ} → way_of logs m ≡ an_order order → (other : List ℕ) → Runs logs m other → Earlier other order → ⊥
  way_first {order} e other r l = ⊎_elim (λ q. let s : Earlier order order = rw (← q) at l in not_both s s) (λ h. not_both h l) (way_earliest e other r)

  -- .. so an order that runs, with none that runs earlier than it, is the one found
  pub first_way : {order : List ℕ} → Runs logs m order → ((other : List ℕ) → Runs logs m other → Earlier other order → ⊥) → way_of logs m ≡ an_order order
  first_way {order} r h =
      let f = runs_found order r in
      f.is ∙ ⊎_elim (λ q. ap an_order q) (λ l. absurd (h f.given (way_runs f.is) l)) f.first

  -- "None" is given exactly when no such order fires
  pub way_none : way_of logs m ≡ no_order → (order : List ℕ) → Runs logs m order → ⊥
  way_none e order r = let f = runs_found order r in not_none (sym e ∙ f.is)

  pub none_way : ((order : List ℕ) → Runs logs m order → ⊥) → way_of logs m ≡ no_order
  none_way h = go (way_of logs m) refl
    where
      go : (w : Way) → way_of logs m ≡ w → way_of logs m ≡ no_order
      go no_order e = e
      go (an_order order) e = absurd (h order (way_runs e))

  -- "The order is a list of 0 and 1, one per step": the order found has a step for each letter
  pub way_long : {order : List ℕ} → way_of logs m ≡ an_order order → (length order ≡ length logs.first + length logs.second) × Letters 2 order
  way_long e = let o = (way_runs e).of_both in (o.long, order_steps o)
