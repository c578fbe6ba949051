-- Laws of the state before the first part. Assumes nothing.
use Rattle.std.specs.Prelude.{Ok}
use Prim.Native.Nat.{ℕ, ◌≤◌}
use mathlib.Core.Path.{◌≡◌, refl}
use mathlib.Core.Bool.{true}
use mathlib.Core.List.{List}
use native.Mathlib.Omega.{arith}
use lib.ListN.{length, replicate}
use Rattle.ground.specs.Limits.{count_limit}
use Rattle.ground.specs.Lists.{table}
use Rattle.net.specs.Net.{Net}
use Rattle.refusals.specs.Given.{marked_fault}
use Rattle.refusals.proofs.Refusals.{marked_met}
use Rattle.running.specs.Entry.{empty}

-- the room as the code makes it
pub blank : replicate count_limit 0 ≡ empty
unfolding table
blank = refl

-- it has room for the initial marking
pub start_room : (net : Net) (initial : List ℕ) → marked_fault net initial true ≡ Ok tt → length initial ≤ count_limit
start_room net initial q = let m = marked_met net initial true q in omega (arith, m.marked, m.sized.few_places)
