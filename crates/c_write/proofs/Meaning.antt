-- What C is handed: the promise of writing has one answer and one content of the room; nothing of an answer is lost on the way. Assumes nothing.
use Prim.Native.Nat.{ℕ}
use mathlib.Core.Path.{◌≡◌, refl, sym, ◌∙◌}
use mathlib.Core.Bool.{cond}
use mathlib.Core.List.{List}
use lib.Dec.{eqb}
use Rattle.std.specs.Prelude.{Ok, Err}
use Rattle.refusals.specs.Given.{Answer, refused}
use Rattle.file_write.specs.Told.{numbers}
use Rattle.file_write.specs.Entry.{Wrote}
use Rattle.c_write.specs.Handed.{handed_length, HandedFile}
use Rattle.c_write.specs.declared.LengthAnswer.{LengthAnswer}

pub unique_file : (x : Wrote) (r r' : LengthAnswer) (m m' : List ℕ) → HandedFile x r m → HandedFile x r' m' → (r ≡ r') × (m ≡ m')
unique_file x r r' m m' a b = (a.answer ∙ sym b.answer, a.left ∙ sym b.left)

abbrev pub length_of : LengthAnswer → Answer ℕ
length_of r = cond (eqb r.kind 0x82) (refused r.number r.position) (Ok r.length)

pub length_whole : (a : Answer ℕ) → length_of (handed_length (numbers a)) ≡ a
unfolding handed_length
length_whole (Ok n) = refl
length_whole (Err r) = refl
