-- The number of a refusal is one byte. Assumes nothing.
use Rattle.std.specs.Prelude.{Ok, Err}
use Rattle.refusals.specs.Given.{Fault, refused}
use Rattle.refusals.proofs.Chains.{refused_one}
use Prim.Native.Nat.{ℕ, ◌+◌, ◌<◌}
use mathlib.Core.Path.{◌≡◌, refl}
use mathlib.Core.Bool.{Bool, true, false, cond}
use mathlib.Core.List.{List, [], ◌∷◌, ◌++◌}
use native.Mathlib.Omega.{arith}
use lib.Dec.{ltb, eqb}
use lib.ListN.{length}
use Rattle.file_digits.specs.Frame.{line_feed, line_limit}
use Rattle.file_line.specs.declared.Reading.{Reading}
use Rattle.file_line.specs.declared.Rooms.{Rooms}
use Rattle.file_line.specs.Read.{judge_of, line_of, rooms_of}
use Rattle.file_line.proofs.Meaning.{judged_number, taken_line, refused_line}
use Rattle.file_parts.specs.File.{Run, going, stopped, Both, both, ended, fed_to, feed_of, feed_all, finish_of, case_of}

-- so it is in every state of the fold
abbrev SmallRun : Run → Type 0
SmallRun (going s d) = Unit {0}
SmallRun (stopped n l) = n < 256

small_ended : (s : Reading) (d : List ℕ) (x : Rooms) → SmallRun (ended (line_of s d x))
small_ended s d x = go (judge_of s d x) refl
  where
    go : (f : Fault) → judge_of s d x ≡ f → SmallRun (ended (line_of s d x))
    go (Ok _) j = rw (taken_line s d x j).0 tt
    go (Err r) j = rw (refused_line s d x r.number r.at j).0 (let z = (judged_number s d x r.number r.at j).1 in omega arith)

small_byte : (r : Run) (x : Rooms) (b : ℕ) → SmallRun r → SmallRun (fed_to r x b).run
unfolding fed_to
small_byte (stopped n l) x b k = k
small_byte (going s d) x b k = go (eqb b line_feed) (ltb (length d) line_limit)
  where
    go : (a c : Bool) → SmallRun (cond a (both (ended (line_of s d x)) (rooms_of s d x)) (cond c (both (going s (d ++ (b ∷ []))) x) (both (stopped 11 (s.line + 1)) x))).run
    go true c = small_ended s d x
    go false true = tt
    go false false = omega arith

small_all : (f : List ℕ) (z : Both) → SmallRun z.run → SmallRun (feed_all z f).run
unfolding feed_all
small_all [] z k = k
small_all (b ∷ f) z k = small_all f (feed_of z b) (small_byte z.run z.rooms b k)

small_case : (r : Run) (n l : ℕ) → SmallRun r → case_of r ≡ refused n l → n < 256
unfolding case_of finish_of
small_case (stopped m k) n l h e = let z = (refused_one {A = Reading} m k n l e).0 in omega (arith, z, h)
small_case (going s (b ∷ d)) n l h e = let z = (refused_one {A = Reading} 11 (s.line + 1) n l e).0 in omega (arith, z)
small_case (going s []) n l h e = go (eqb s.phase 5) e
  where
    go : (b : Bool) → cond b (Ok s) (refused 12 (s.line + 1)) ≡ refused n l → n < 256
    go true q = let z : ◌≡◌ {A = ℕ} 0 1 = cc in absurd (omega arith)
    go false q = let z = (refused_one {A = Reading} 12 (s.line + 1) n l q).0 in omega (arith, z)

-- the number that a file is refused with
pub small_number : (f : List ℕ) (s : Reading) (x : Rooms) (n l : ℕ) → case_of (feed_all (both (going s []) x) f).run ≡ refused n l → n < 256
small_number f s x n l e = small_case (feed_all (both (going s []) x) f).run n l (small_all f (both (going s []) x) tt) e
