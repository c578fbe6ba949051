-- Laws of the refusals of two logs' lengths: exactly when they are given. Assumes nothing.
use Rattle.std.specs.Prelude.{Ok}
use Prim.Native.Nat.{ℕ, ◌≤◌}
use mathlib.Core.Path.{◌≡◌}
use mathlib.Core.Bool.{false, ◌||◌}
use mathlib.Core.List.{List}
use native.Mathlib.Omega.{arith}
use lib.ListN.{length}
use lib.Dec.{ltb}
use borrow.Author.Tests.{le-ltb, ltb-false}
use Rattle.ground.specs.Limits.{word_limit}
use Rattle.ground.proofs.Tests.{or-false, both_false}
use Rattle.refusals.proofs.Chains.{or_sound, sound_or, refuse_sound, sound_refuse}
use Rattle.refusals.proofs.Exactly.{Reads, tells_test, reads_test, reads_both}
use Rattle.refusals.specs.Given.{refuse}
use Rattle.orders.specs.Lengths.{log_limit, long_fault, LongFirst}

-- two lengths that are no longer than the limit
module _ (limit first second : ℕ) where
  both_of : (ltb limit first || ltb limit second) ≡ false → (first ≤ limit) × (second ≤ limit)
  both_of e = let a = or-false (ltb limit first) (ltb limit second) e in (ltb-false limit first a.0, ltb-false limit second a.1)

  of_both : (first ≤ limit) × (second ≤ limit) → (ltb limit first || ltb limit second) ≡ false
  of_both h = both_false _ _ (le-ltb limit first h.0) (le-ltb limit second h.1)

-- nothing of 4 and 15 is refused exactly where neither log has more letters than a log may have
pub long_met : (first second : ℕ) → long_fault first second ≡ Ok tt → (first ≤ log_limit) × (second ≤ log_limit)
unfolding long_fault
long_met first second e =
    let a = or_sound (refuse (ltb word_limit first || ltb word_limit second) 4 0) (refuse (ltb log_limit first || ltb log_limit second) 15 0) e in
    both_of log_limit first second (refuse_sound _ 15 0 a.1)

pub met_long : (first second : ℕ) → first ≤ log_limit → second ≤ log_limit → long_fault first second ≡ Ok tt
unfolding long_fault
met_long first second a b =
    sound_or _ _ (sound_refuse _ 4 0 (of_both word_limit first second (omega arith, omega arith))) (sound_refuse _ 15 0 (of_both log_limit first second (a, b)))

-- and they are read demand by demand
pub long_reads : (first second : List ℕ) → Reads (long_fault (length first) (length second)) (LongFirst first second)
unfolding long_fault
long_reads first second = reads_both (reads_test (tells_test _ 4 0 (both_of word_limit (length first) (length second)) (of_both word_limit (length first) (length second)))) (reads_test (tells_test _ 15 0 (both_of log_limit (length first) (length second)) (of_both log_limit (length first) (length second))))
