use native.Mathlib.Omega.{arith}
use Rattle.list_pairs.proofs.Fires.{passes_at, fired_any_lem}
use borrow.Author.Rules.{rules}
use Rattle.list_pairs.proofs.fire_any.Goals as goal

pub moved-requires : goal.moved-requires
moved-requires c =
    passes_at c.args.places c.args.pre.now c.args.post.now c.args.t c.args.listed.now c.loop-p.p c.requires.listed_value
    (omega (arith, c.loop-p-test.true, c.requires.listed_len.0, c.requires.listed_len.1))

pub returns : goal.returns
returns c = search (fired_any_lem, rules)
