use Prim.Native.Nat.{ℕ, ◌≤◌, ◌<◌}
use mathlib.Core.Path.{◌≡◌}
use mathlib.Core.Bool.{Bool, false}
use lib.ListN.{length, get_or}
use Rattle.refusals.specs.Given.{unlike}
use Rattle.lists.proofs.same_marking.Given as goal

-- no place from i on, of n, passes the test: what a scan from the last place down knows at i
pub record Above (f : ℕ → Bool) (i n : ℕ) : Type 0 where
  pub none : (k : ℕ) → i ≤ k → k < n → f k ≡ false

abbrev pub invariant-loop-p : goal.invariant-loop-p
invariant-loop-p l = Above (λ p. unlike (get_or l.listed p 0) (get_or l.marking p 0)) l.p (length l.marking)
