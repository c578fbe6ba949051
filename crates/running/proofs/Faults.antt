-- Laws of a part's refusals: what is left of refusal 4 where the letters fired are counted too. Assumes nothing.
use Rattle.refusals.specs.Given.{Fault}
use Prim.Native.Nat.{ℕ, ◌+◌, ◌≤◌}
use mathlib.Core.Path.{◌≡◌}
use mathlib.Core.List.{List}
use native.Mathlib.Omega.{arith}
use lib.ListN.{length}
use lib.Dec.{ltb}
use borrow.Author.Tests.{le-ltb}
use Rattle.ground.specs.Limits.{word_limit}
use Rattle.refusals.specs.Given.{refuse, bad_letter, word_fault}

-- a word that is not too long with the letters fired is not too long alone
pub letters_rest : (T fired : ℕ) (w : List ℕ) (r : Fault) → fired + length w ≤ word_limit → r ≡ word_fault T w → r ≡ refuse (ltb (bad_letter T w) (length w)) 5 (bad_letter T w)
unfolding word_fault
letters_rest T fired w r h e = rw (le-ltb word_limit (length w) (omega arith)) at e
