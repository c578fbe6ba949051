use native.Mathlib.Omega.{arith}
use Rattle.net.specs.Lent.{lent}
use Rattle.list_arcs.proofs.Judges.{judge_next, judge_seen, judge_end}
use borrow.Author.Rules.{rules}
use Rattle.list_arcs.proofs.may_fire_listed.Goals as goal

pub returns-then-is_stopped : goal.returns-then-is_stopped
returns-then-is_stopped c =
    judge_seen (lent c.args.sized.now.net) c.args.listed.now c.args.t c.requires.listed_len.0 c.requires.within c.loop-p.p _ c.loop-p.invariant.0 c.next_place-p.ensures _
    (rw (c.takes-takes.ensures, c.puts-puts.ensures) at c.is_stopped.ensures) (search rules)

pub loop-p-preserved : goal.loop-p-preserved
loop-p-preserved c = (
  omega (arith, c.next_place-p.ensures.less, c.loop-p.invariant.0),
  judge_next (lent c.args.sized.now.net) c.args.listed.now c.args.t c.requires.listed_len.0 c.requires.within c.loop-p.p _ c.loop-p.invariant.0 c.next_place-p.ensures _
      (rw (c.takes-takes.ensures, c.puts-puts.ensures) at c.is_stopped.ensures) (search rules) c.loop-p.invariant.1,
)

pub returns : goal.returns
returns c = judge_end (lent c.args.sized.now.net) c.args.listed.now c.args.t c.requires.listed_len.0 c.loop-p.p c.loop-p.invariant.1 (omega (arith, c.loop-p-test.false))
