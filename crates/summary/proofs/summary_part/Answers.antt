use mathlib.Core.Path.{sym}
use native.Mathlib.Omega.{arith}
use Rattle.net.specs.Lent.{lent}
use Rattle.summary.proofs.Answers.{sane_of}
use Rattle.summary.proofs.summary_part.Goals as goal

pub overflow_cast-result : goal.overflow_cast-result
overflow_cast-result c = omega (arith, (sane_of (lent c.args.net.now) c.args.part.now _ (sym c.in_ok-find_fault.ensures)).short)

pub invariant_of-sized : goal.invariant_of-sized
invariant_of-sized c = record { sized = (sane_of (lent c.args.net.now) c.args.part.now _ (sym c.in_ok-find_fault.ensures)).sized }

pub word_slots-requires : goal.word_slots-requires
word_slots-requires c =
    let s = sane_of (lent c.args.net.now) c.args.part.now _ (sym c.in_ok-find_fault.ensures) in
    record { light = s.light; word_len_bound = s.short; letters = s.letters }
