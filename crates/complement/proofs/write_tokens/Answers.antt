use native.Mathlib.Omega.{arith}
use lib.ListN.{length, get_or}
use lib.Dec.{ltb}
use Rattle.complement.specs.Walk.{tokens_at}
use Rattle.complement.proofs.Written.{map_next, map_whole}
use Rattle.complement.proofs.write_tokens.Goals as goal

pub loop-q-preserved : goal.loop-q-preserved
loop-q-preserved c = map_next (λ q p. tokens_at (ltb q (length c.args.caps.now)) (get_or c.args.caps.now p 0) (get_or c.args.initial.now p 0)) c.args.sources.now c.args.room.now 0 c.loop-q.q c.loop-q.room c.loop-q.invariant c.loop-q.q _ c.loop-q-test.true (omega arith) c.tokens_at.ensures

pub returns : goal.returns
returns c = map_whole (λ q p. tokens_at (ltb q (length c.args.caps.now)) (get_or c.args.caps.now p 0) (get_or c.args.initial.now p 0)) c.args.sources.now c.args.room.now c.loop-q.q c.loop-q.room c.loop-q.invariant c.requires.sources_len c.loop-q-test.false
