-- Laws of a list's entries: the first bad one by the list's kind. Assumes nothing.
use Rattle.std.specs.Prelude.{Option, None}
use Prim.Native.Nat.{ℕ}
use mathlib.Core.Path.{◌≡◌}
use mathlib.Core.List.{List}
use native.Mathlib.Omega.{arith}
use lib.ListN.{length}
use borrow.Author.Tests.{le-ltb}
use Rattle.ground.specs.Lists.{found}
use Rattle.lists.specs.declared.Kind.{Kind}
use Rattle.lists.specs.declared.Kind.TheVariants.{Closed, Cover}
use Rattle.list_refusals.specs.Given.{bad_entry, first_bad}

-- where every entry may be given, none is found
pub bad_none : (P : ℕ) (caps list : List ℕ) → length list ≡ bad_entry P caps list → None ≡ found (length list) (bad_entry P caps list)
bad_none P caps list e = rw (← e, le-ltb (length list) (length list) (omega arith))

-- by the list's kind
module _ (kind : Kind) (P : ℕ) (caps list : List ℕ) where
  pub bad_closed : (r : Option ℕ) → kind ≡ Closed → r ≡ found (length list) (bad_entry P caps list) → r ≡ found (length list) (first_bad kind P caps list)
  unfolding first_bad
  bad_closed r q e = rw q e

  pub bad_cover : kind ≡ Cover → None ≡ found (length list) (first_bad kind P caps list)
  unfolding first_bad
  bad_cover q = rw (q, le-ltb (length list) (length list) (omega arith))

pub ruleset bads = (bad_closed, bad_cover)
