-- Laws of an answer's line, by its case. Assumes nothing.
use Prim.Native.Nat.{ℕ, ◌+◌, ◌*◌, ◌≤◌}
use mathlib.Core.List.{List, [], ◌∷◌}
use native.Mathlib.Omega.{arith}
use lib.ListN.{length, length-append}
use Rattle.ground.specs.Limits.{count_limit}
use Rattle.file_digits.specs.Frame.{line_feed}
use Rattle.file_put.specs.Put.{digits_of, line_text, four, fours}
use Rattle.net.specs.Firing.{cause_place}
use Rattle.plays.specs.declared.Replay.{Replay}
use Rattle.plays.specs.declared.Replay.TheVariants.{Fired, Blocked}
use Rattle.refusals.specs.Given.{Answer}
use Rattle.std.specs.Prelude.{Ok, Err}
use Rattle.verdict_text.specs.Verdict.{bytes_of, answer_limit}
use Rattle.file_put.proofs.Round.{digits_long}
use Rattle.file_put.proofs.Puts.{four_long, fours_long}

-- a verdict line is no longer than the limit
pub line_few : (a : Answer Replay) (marking : List ℕ) → length marking ≤ count_limit → length (line_text (bytes_of a marking)) ≤ answer_limit
line_few a marking h = let n = few a in omega (arith, n, digits_long (bytes_of a marking), length-append (digits_of (bytes_of a marking)) (line_feed ∷ []))
  where
    few : (a : Answer Replay) → length (bytes_of a marking) ≤ 6 + 4 * count_limit
    few (Ok (Fired n)) = omega (arith, length-append (four n) (fours marking), four_long n, fours_long marking)
    few (Ok (Blocked i why)) = omega (arith, length-append (four i) (cause_place why ∷ []), four_long i)
    few (Err r) = omega (arith, four_long r.at)
