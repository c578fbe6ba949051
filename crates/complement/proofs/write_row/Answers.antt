use mathlib.Core.Path.{refl}
use lib.ListN.{length, get_or}
use lib.Dec.{ltb}
use Rattle.complement.specs.Walk.{taken_from, put_to}
use Rattle.complement.proofs.Written.{map_next, map_end}
use Rattle.complement.proofs.write_row.Goals as goal

pub loop-q-preserved : goal.loop-q-preserved
loop-q-preserved c =
    let a = c.args in (
      map_next (λ q p. taken_from (ltb q (length a.puts.now)) (get_or a.marks.now p 0) (get_or a.takes.now p 0) (get_or a.puts.now p 0)) a.sources.now a.pre2.now a.to c.loop-q.q c.loop-q.pre2 c.loop-q.invariant.0 _ _ c.loop-q-test.true refl c.taken_from.ensures,
      map_next (λ q p. put_to (ltb q (length a.puts.now)) (get_or a.marks.now p 0) (get_or a.takes.now p 0) (get_or a.puts.now p 0)) a.sources.now a.post2.now a.to c.loop-q.q c.loop-q.post2 c.loop-q.invariant.1 _ _ c.loop-q-test.true refl c.put_to.ensures,
    )

pub returns : goal.returns
returns c =
    let a = c.args in record {
      pre2_after = map_end (λ q p. taken_from (ltb q (length a.puts.now)) (get_or a.marks.now p 0) (get_or a.takes.now p 0) (get_or a.puts.now p 0)) a.sources.now a.pre2.now a.to c.loop-q.q c.loop-q.pre2 c.loop-q.invariant.0 c.loop-q-test.false;
      post2_after = map_end (λ q p. put_to (ltb q (length a.puts.now)) (get_or a.marks.now p 0) (get_or a.takes.now p 0) (get_or a.puts.now p 0)) a.sources.now a.post2.now a.to c.loop-q.q c.loop-q.post2 c.loop-q.invariant.1 c.loop-q-test.false;
    }
