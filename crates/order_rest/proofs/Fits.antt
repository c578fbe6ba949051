-- What `fits` tests: one fact for each of its tests. Assumes nothing.
use Prim.Native.Nat.{ℕ, ◌+◌, ◌<◌}
use mathlib.Core.Path.{◌≡◌}
use mathlib.Core.Bool.{true, ◌&&◌}
use mathlib.Core.List.{List}
use lib.ListN.{length}
use lib.Dec.{ltb, eqb}
use borrow.Author.Tests.{lt-ltb, ltb-true, eq-eqb, eqb-true}
use Rattle.ground.proofs.Tests.{and-true}
use Rattle.orders.specs.Orders.{count, OrderOf}
use Rattle.order_rest.specs.Rest.{fits}

pub record Fitting (n k : ℕ) (order : List ℕ) (step : ℕ) : Type 0 where
  pub zeros : count 0 order ≡ n
  pub ones : count 1 order ≡ k
  pub long : length order ≡ n + k
  pub inside : step < length order

module _ (n k : ℕ) (order : List ℕ) (step : ℕ) where
  pub fits_true : fits n k order step ≡ true → Fitting n k order step
  fits_true e =
      let a = and-true (eqb (count 0 order) n) (eqb (count 1 order) k && (eqb (length order) (n + k) && ltb step (length order))) e in
      let b = and-true (eqb (count 1 order) k) (eqb (length order) (n + k) && ltb step (length order)) a.1 in
      let d = and-true (eqb (length order) (n + k)) (ltb step (length order)) b.1 in
      record { zeros = eqb-true _ _ a.0; ones = eqb-true _ _ b.0; long = eqb-true _ _ d.0; inside = ltb-true _ _ d.1 }

  pub true_fits : Fitting n k order step → fits n k order step ≡ true
  true_fits f =
      rw (eq-eqb (count 0 order) n f.zeros, eq-eqb (count 1 order) k f.ones, eq-eqb (length order) (n + k) f.long, lt-ltb step (length order) f.inside)

-- the order is one of the two logs' and has the step
module _ (first second order : List ℕ) (step : ℕ) where
  pub order_of_lem : fits (length first) (length second) order step ≡ true → OrderOf first second order × (step < length order)
  order_of_lem e =
      let f = fits_true (length first) (length second) order step e in
      (record { zeros = f.zeros; ones = f.ones; long = f.long }, f.inside)

  pub of_order : OrderOf first second order × (step < length order) → fits (length first) (length second) order step ≡ true
  of_order o =
      true_fits (length first) (length second) order step (record { zeros = o.0.zeros; ones = o.0.ones; long = o.0.long; inside = o.1 })
