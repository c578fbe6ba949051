use native.Mathlib.Omega.{arith}
use Rattle.list_index.proofs.Hashes.{bucket_in}
use Rattle.list_index.proofs.Finds.{seek_start, seek_next, seek_less, seek_hit, seek_end}
use borrow.Author.Rules.{rules}
use Rattle.list_index.proofs.find.Goals as goal

pub bounds-heads-b : goal.bounds-heads-b
bounds-heads-b c = bucket_in c.args.marking.now _ _ (rw c.requires.hash_value at c.bucket_at-b.ensures) c.requires.indexed.wide

pub bounds-links-k : goal.bounds-links-k
bounds-links-k c = omega (arith, c.loop-at-test.true, c.loop-at.invariant.most, c.requires.indexed.long)

pub loop-at-init : goal.loop-at-init
loop-at-init c = seek_start c.args.list.now.places c.args.list.now.count c.args.list.now.list.now c.args.heads.now c.args.links.now c.args.marking.now c.requires.whole c.requires.marking_len.0 c.requires.indexed _ _ (rw c.requires.hash_value at c.bucket_at-b.ensures) c.from-at.ensures

pub returns-then-is_same : goal.returns-then-is_same
returns-then-is_same c = seek_hit c.args.list.now.places c.args.list.now.count c.args.list.now.list.now c.args.marking.now c.loop-at.at c.loop-at.invariant _ (rw c.marking.ensures at c.is_same.ensures) (search rules) (omega (arith, c.loop-at-test.true))

pub loop-at-preserved : goal.loop-at-preserved
loop-at-preserved c =
    seek_next c.args.list.now.places c.args.list.now.count c.args.list.now.list.now c.args.heads.now c.args.links.now c.args.marking.now c.requires.whole c.requires.marking_len.0 c.requires.indexed c.loop-at.at _ c.loop-at.invariant (omega (arith, c.loop-at-test.true)) c.from-at-in-loop-at.ensures _
    (rw c.marking.ensures at c.is_same.ensures) (search rules)

pub loop-at-smaller : goal.loop-at-smaller
loop-at-smaller c = seek_less c.args.list.now.places c.args.list.now.count c.args.list.now.list.now c.args.heads.now c.args.links.now c.args.marking.now c.requires.whole c.requires.marking_len.0 c.requires.indexed c.loop-at.at _ c.loop-at.invariant (omega (arith, c.loop-at-test.true)) c.from-at-in-loop-at.ensures

pub returns : goal.returns
returns c = seek_end c.args.list.now.places c.args.list.now.count c.args.list.now.list.now c.args.marking.now c.loop-at.at c.loop-at.invariant (omega (arith, c.loop-at-test.false))
