use native.Mathlib.Omega.{arith}
use mathlib.Core.Path.{refl}
use Rattle.file_reads.proofs.Inputs.{reads_none, reads_next, reads_last, reads_over}
use borrow.Author.Rules.{rules}
use Rattle.file_input.proofs.read_all.Goals as goal

pub loop-init : goal.loop-init
loop-init g c = (c.requires.0, record { caps = refl; marks = refl; initial = refl; pre = refl; post = refl; word = refl }, reads_none _)

pub loop-preserved : goal.loop-preserved
loop-preserved g c =
    let s = c.loop.invariant.1 in (
      c.read_some-fed.ensures.sound,
      record { caps = omega (arith, s); marks = omega (arith, s); initial = omega (arith, s); pre = omega (arith, s); post = omega (arith, s); word = omega (arith, s) },
      reads_next _ _ _ c.loop.invariant.2 _ _ c.read_some-fed.ensures.step (search rules),
    )

pub returns-in_default : goal.returns-in_default
returns-in_default g c = record { sound = c.read_some-fed.ensures.sound; reads = reads_last _ _ _ c.loop.invariant.2 _ _ c.read_some-fed.ensures.step c.in_default.not-More }

pub returns-clause-reads : goal.returns-clause-reads
returns-clause-reads g c = reads_over _ _ _ c.loop.invariant.2 (omega (arith, c.loop.auto.counter-end, c.loop-test.false))
