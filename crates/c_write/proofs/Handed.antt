-- What an entry answers is handed over as it is. Assumes nothing.
use Prim.Native.Nat.{ℕ}
use mathlib.Core.Path.{◌≡◌, ap, ◌∙◌}
use mathlib.Core.List.{List}
use Rattle.net.specs.Net.{Net}
use Rattle.file_write.specs.Told.{length_of, numbers, LengthTold}
use Rattle.file_write.specs.Entry.{write_of, CaseWritten}
use Rattle.refusals.specs.Given.{Answer}
use Rattle.c_write.specs.Handed.{handed_length, HandedFile}
use Rattle.c_write.specs.declared.LengthAnswer.{LengthAnswer}

pub hand_length : (net : Net) (initial w : List ℕ) (r : LengthAnswer) (a : Answer ℕ) → r ≡ handed_length (numbers a) → LengthTold net initial w a → r ≡ handed_length (numbers (length_of net initial w))
hand_length net initial w r a e h = e ∙ ap handed_length h.answer

pub hand_file : (net : Net) (initial w room : List ℕ) (r : LengthAnswer) (a : Answer ℕ) (room' : List ℕ) → r ≡ handed_length (numbers a) → CaseWritten net initial w room a room' → HandedFile (write_of net initial w room) r room'
hand_file net initial w room r a room' e h = record { answer = e ∙ ap handed_length h.answer; left = h.left }
