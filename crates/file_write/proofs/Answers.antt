-- What the code found makes the answers that are promised. Assumes nothing.
use Rattle.std.specs.Prelude.{Ok}
use Prim.Native.Nat.{ℕ, ◌≤◌}
use mathlib.Core.Path.{◌≡◌, sym, ◌∙◌}
use mathlib.Core.List.{List}
use native.Mathlib.Omega.{arith}
use lib.ListN.{length}
use lib.Dec.{ltb}
use Rattle.net.specs.Net.{Net}
use Rattle.refusals.specs.Given.{Fault, refuse}
use Rattle.file_put.specs.Append.{Appended}
use Rattle.file_mask.specs.Mask.{mask_of}
use Rattle.file_text.specs.Text.{file_of}
use Rattle.file_out.specs.Length.{wide_rows, file_length}
use Rattle.file_out.proofs.Length.{file_length_lem}
use Rattle.file_write.specs.Told.{text_fault, LengthTold, Writable}
use Rattle.file_write.specs.Entry.{room_fault, write_fault, CaseWritten, Allowed}
use Rattle.file_write.proofs.Exactly.{writable_of, allowed_of}

-- nothing of refusals 1 to 5, 17 and 18 was found
module _ (net : Net) (initial w : List ℕ) (e : Ok tt ≡ text_fault net initial w) where
  pub found_writable : Writable net initial w
  found_writable = writable_of net initial w (sym e)

  -- k is what was reckoned as the length
  file_is : (k : ℕ) → k ≡ file_length net.places net.transitions (wide_rows net) (mask_of net.marks) (length w) → k ≡ length (file_of net initial w)
  file_is k h = h ∙ sym (file_length_lem net initial w found_writable.sized found_writable.marked)

  pub fault_room : (room k : ℕ) (r : Fault) → k ≡ file_length net.places net.transitions (wide_rows net) (mask_of net.marks) (length w) → r ≡ refuse (ltb room k) 14 0
      → r ≡ room_fault (length (file_of net initial w)) room
  unfolding room_fault
  fault_room room k r h f = rw (← file_is k h) f

  pub length_told : (k : ℕ) → k ≡ file_length net.places net.transitions (wide_rows net) (mask_of net.marks) (length w) → LengthTold net initial w (Ok k)
  length_told k h = record { answer = rw (← e, file_is k h) }

-- nothing of all refusals was found
module _ (net : Net) (initial w room : List ℕ) (e : Ok tt ≡ write_fault net initial w (length room)) where
  pub found_allowed : Allowed net initial w room
  found_allowed = allowed_of net initial w room (sym e)

  pub found_room : file_length net.places net.transitions (wide_rows net) (mask_of net.marks) (length w) ≤ length room
  found_room = let a = found_allowed in rw (← file_length_lem net initial w a.writable.sized a.writable.marked) a.roomy

  pub case_written : (k : ℕ) (room' : List ℕ) → Appended room 0 (file_of net initial w) k room' → CaseWritten net initial w room (Ok k) room'
  case_written k room' p =
      let h : k ≡ length (file_of net initial w) = omega (arith, p.next) in
      record { answer = rw (← e, h); left = rw (← e) p.made }
