-- Only for the code's walk, no answer is made of it: what an inner function says of the fold.
use Rattle.std.specs.Prelude.{◌≡◌}
use Rattle.file_line.specs.declared.Rooms.{Rooms}
use Rattle.file_parts.specs.File.{Both, Case, case_of}

-- what the fold z comes to at the end of the file: a case, and the rooms y
pub record Comes (z : Both) (r : Case) (y : Rooms) : Type 0 where
  pub answer : r ≡ case_of z.run
  pub left : y ≡ z.rooms
