use mathlib.Core.Path.{sym}
use native.Mathlib.Omega.{arith}
use Rattle.net.specs.Lent.{lent}
use Rattle.replay.proofs.Answers.{sane_of, room_long}
use Rattle.replay.proofs.replay_part.Goals as goal

pub invariant_of-sized : goal.invariant_of-sized
invariant_of-sized c =
    let a = c.args in
    record { sized = (sane_of (lent a.net.now) a.initial.now a.part.now _ (sym (rw c.is_fitting-fits.ensures at c.in_ok-find_fault.ensures))).sized }

pub load-requires : goal.load-requires
load-requires c =
    let a = c.args in
    room_long (lent a.net.now) a.initial.now a.part.now a.within a.room.now
    (sane_of (lent a.net.now) a.initial.now a.part.now _ (sym (rw c.is_fitting-fits.ensures at c.in_ok-find_fault.ensures)))

pub play_word-requires : goal.play_word-requires
play_word-requires c =
    let a = c.args in
    let s = sane_of (lent a.net.now) a.initial.now a.part.now _ (sym (rw c.is_fitting-fits.ensures at c.in_ok-find_fault.ensures)) in
    rw c.load.ensures
    (record { light = s.light; marking_len = s.marked; small = s.fine.few; letters = s.letters; word_bound = omega (arith, s.short) })
