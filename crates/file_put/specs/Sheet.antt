-- To be believed: what it is to write on a sheet.
use Rattle.std.specs.Prelude.{ℕ, ◌+◌, ◌*◌, ◌≡◌, List, length}
use Rattle.file_put.specs.Append.{Appended}
use Rattle.file_put.specs.Put.{digits_of}
use Rattle.file_put.specs.declared.Sheet.{Sheet}

-- the text was appended to the sheet's room at the sheet's position, which is now the one after the text; the room is the one that it was
pub record Written (s : Sheet) (text : List ℕ) (s' : Sheet) : Type 0 where
  pub same : s'.room.ghost_name ≡ s.room.ghost_name
  pub long : length s'.room.now ≡ length s.room.now
  pub appended : Appended s.room.now s.at text s'.at s'.room.now

-- bytes were written, as their digits
pub record Spelled (s : Sheet) (bytes : List ℕ) (s' : Sheet) : Type 0 where
  pub written : Written s (digits_of bytes) s'
  pub next : s'.at ≡ s.at + 2 * length bytes
