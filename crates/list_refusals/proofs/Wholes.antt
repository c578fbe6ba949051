-- Laws of lists of markings: their lengths. Assumes nothing.
use Prim.Native.Nat.{ℕ, ◌*◌, ◌%◌, ◌<◌}
use mathlib.Core.Path.{◌≡◌}
use mathlib.Core.Bool.{true}
use mathlib.Core.List.{List}
use native.Mathlib.Omega.{arith}
use native.Mathlib.Nat.{div-add-mod'}
use lib.ListN.{length}
use lib.Dec.{ltb, eqb}
use borrow.Author.Tests.{lt-ltb, eqb-true}
use Rattle.ground.proofs.Tests.{and-true}
use Rattle.lists.specs.Whole.{count}
use Rattle.list_refusals.specs.Given.{whole}

-- whether the list is made of whole markings
module _ (P : ℕ) (list : List ℕ) where
  pub whole_some : 0 < P → eqb (length list % P) 0 ≡ whole P list
  whole_some h = rw (lt-ltb 0 P h)

  -- such a list is as long as its markings
  pub whole_long : whole P list ≡ true → length list ≡ count P list * P
  whole_long e =
      let z = eqb-true (length list % P) 0 (and-true (ltb 0 P) (eqb (length list % P) 0) e).1 in
      omega (arith, div-add-mod' (length list) P)
