-- Laws of lists laid to the front of a room, and of rooms of the largest sizes. Assumes nothing.
use mathlib.Core.Path.{◌≡◌, sym}
use mathlib.Core.Bool.{true}
use mathlib.Core.List.{List, ◌++◌}
use Prim.Native.Nat.{◌+◌, ◌≤◌}
use native.Mathlib.Omega.{arith}
use lib.ListN.{length, drop}
use lib.Seq.{sets, sets-eq}
use lib.Dec.{eqb}
use borrow.Author.Tests.{eqb-true}
use Rattle.ground.specs.Limits.{count_limit, word_limit}
use Rattle.ground.proofs.Tests.{and-true}
use Rattle.file_line.specs.declared.Rooms.{Rooms}
use Rattle.file_line.specs.Read.{cell_limit}
use Rattle.file_line.specs.Walk.{Large}
use Rattle.file_entry.specs.Entry.{largest_of, largest, Largest}

-- a list written over the front of another
pub front_sets : {A : Type 0} (l vs : List A) → length vs ≤ length l → vs ++ drop (length vs) l ≡ sets l 0 vs
front_sets l vs h = let z : 0 + length vs ≡ length vs = omega arith in sym (rw z at (sets-eq vs l 0 (omega arith)))

-- the test says what it should
pub largest_of_lem : (x : Rooms) → largest x ≡ true → Largest x
unfolding largest_of
largest_of_lem x e =
    let a = and-true _ (eqb (length x.word) word_limit) e in
    let b = and-true _ (eqb (length x.post) cell_limit) a.0 in
    let c = and-true _ (eqb (length x.pre) cell_limit) b.0 in
    let d = and-true _ (eqb (length x.initial) count_limit) c.0 in
    let f = and-true _ (eqb (length x.marks) count_limit) d.0 in
    record { caps = eqb-true _ _ f.0; marks = eqb-true _ _ f.1; initial = eqb-true _ _ d.1; pre = eqb-true _ _ c.1; post = eqb-true _ _ b.1; word = eqb-true _ _ a.1 }

pub of_largest : (x : Rooms) → Largest x → largest x ≡ true
unfolding largest_of
of_largest x l = rw (l.caps, l.marks, l.initial, l.pre, l.post, l.word)

pub largest_large : (x : Rooms) → Largest x → Large x
largest_large x l =
    record { caps = omega (arith, l.caps); marks = omega (arith, l.marks); initial = omega (arith, l.initial); pre = omega (arith, l.pre); post = omega (arith, l.post); word = omega (arith, l.word) }
