-- To be believed: what it is to append a text to a room.
use Rattle.std.specs.Prelude.{ℕ, ◌+◌, ◌≡◌, List, length}
use Rattle.std.proofs.lemmas.List.Edits.{sets}

-- the bytes of the text were put into the room one after another from number at on, and no other entry was touched; r is the number after them
pub record Appended (room : List ℕ) (at : ℕ) (text : List ℕ) (r : ℕ) (room' : List ℕ) : Type 0 where
  pub made : room' ≡ sets room at text
  pub next : r ≡ at + length text
