use native.Mathlib.Omega.{arith}
use Rattle.file_put.specs.Put.{four, fours}
use Rattle.file_put.proofs.Sheets.{spelled_none, spelled_next, spelled_all}
use Rattle.verdict_text.proofs.Fours.{fours_then, fours_one, fours_at}
use Rattle.verdict_text.proofs.put_marking.Goals as goal

pub loop-tokens-init : goal.loop-tokens-init
unfolding fours
loop-tokens-init c = spelled_none _

pub put_bytes-requires : goal.put_bytes-requires
put_bytes-requires c = omega (arith, c.requires, fours_at _ _ c.loop-tokens.invariant (omega arith))

pub loop-tokens-preserved : goal.loop-tokens-preserved
unfolding four
loop-tokens-preserved c = spelled_next fours fours_then _ _ c.loop-tokens.invariant (omega arith) (rw (fours_one, ← c.to_be_bytes.ensures) c.put_bytes.ensures)

pub returns : goal.returns
returns c = spelled_all fours _ _ c.loop-tokens.invariant (omega arith)
