-- What writing a case file means: the file stands at the front of the room and the rest is as found; the length told is the room that is needed. Assumes nothing.
use Prim.Native.Nat.{ℕ, ◌≤◌, ◌<◌}
use mathlib.Core.Path.{◌≡◌, refl, sym, ap, ◌∙◌}
use mathlib.Core.List.{List}
use native.Mathlib.Omega.{arith}
use lib.ListN.{length, take, drop}
use lib.Seq.{sets, length-sets}
use Rattle.std.specs.Prelude.{Ok}
use Rattle.refusals.specs.Given.{Answer, refused}
use Rattle.refusals.proofs.Exactly.{not_refused}
use Rattle.net.specs.Net.{Net}
use Rattle.file_mask.specs.Mask.{mask_of}
use Rattle.file_text.specs.Text.{file_of, filed}
use Rattle.file_text.proofs.Fronts.{front_of, rest_of}
use Rattle.file_text.proofs.Meaning.{file_filed}
use Rattle.file_out.specs.Length.{wide_rows, file_limit}
use Rattle.file_out.proofs.Length.{file_length_lem, wide_most, longest_file}
use Rattle.file_write.specs.Told.{LengthTold, Writable}
use Rattle.file_write.specs.Entry.{CaseWritten, Allowed}
use Rattle.file_write.proofs.Exactly.{fault_first, fault_last, length_fault, length_answered_allowed, allowed_told, refused_by, answered_allowed, allowed_written}

-- what was written: the file, at the front of the room
module _ (net : Net) (initial w room : List ℕ) (n : ℕ) (room' : List ℕ) (promise : CaseWritten net initial w room (Ok n) room') where
  pub written_allowed : Allowed net initial w room
  written_allowed = answered_allowed net initial w room (Ok n) room' promise (not_refused n)

  made : (◌≡◌ {A = Answer ℕ} (Ok n) (Ok (length (file_of net initial w)))) × (room' ≡ sets room 0 (file_of net initial w))
  made = allowed_written net initial w room (Ok n) room' promise written_allowed

  -- its length
  pub written_length : n ≡ length (file_of net initial w)
  written_length = let e = made.0 in cc

  -- its bytes
  pub written_file : take n room' ≡ file_of net initial w
  written_file = rw made.1 (front_of (file_of net initial w) room n (sym written_length) (omega (arith, written_length, written_allowed.roomy)))

  -- "Room past the end isn't touched"
  pub written_rest : drop n room' ≡ drop n room
  written_rest = rw made.1 (rest_of (file_of net initial w) room n (sym written_length) (omega (arith, written_length, written_allowed.roomy)))

  pub written_room : length room' ≡ length room
  written_room = ap length made.1 ∙ length-sets room 0 (file_of net initial w)

  -- and the length that is told is the one that was written
  pub written_told : (r : Answer ℕ) → LengthTold net initial w r → r ≡ Ok n
  written_told r asked = allowed_told net initial w r asked written_allowed.writable ∙ ap Ok (sym written_length)

-- "Each net and word has one file", whatever room it is written into
pub one_file : (net : Net) (initial w room : List ℕ) (n : ℕ) (room' other : List ℕ) (k : ℕ) (other' : List ℕ)
    → CaseWritten net initial w room (Ok n) room' → CaseWritten net initial w other (Ok k) other' → (n ≡ k) × (take n room' ≡ take k other')
one_file net initial w room n room' other k other' p q = (
  written_length net initial w room n room' p ∙ sym (written_length net initial w other k other' q),
  written_file net initial w room n room' p ∙ sym (written_file net initial w other k other' q),
)

-- "0 plain, any other pocket, all alike": the file of a net with any marks is the file of the net as a file has it, with 1 for each pocket
pub one_file_filed : (net : Net) (initial w room : List ℕ) (n : ℕ) (room' other : List ℕ) (k : ℕ) (other' : List ℕ)
    → CaseWritten net initial w room (Ok n) room' → CaseWritten (filed net) initial w other (Ok k) other' → (n ≡ k) × (take n room' ≡ take k other')
one_file_filed net initial w room n room' other k other' p q =
    let e = file_filed net initial w in (
      written_length net initial w room n room' p ∙ sym (written_length (filed net) initial w other k other' q ∙ ap length e),
      written_file net initial w room n room' p ∙ sym (written_file (filed net) initial w other k other' q ∙ e),
    )

-- the length that is told
module _ (net : Net) (initial w : List ℕ) (n : ℕ) (asked : LengthTold net initial w (Ok n)) where
  pub told_writable : Writable net initial w
  told_writable = length_answered_allowed net initial w (Ok n) asked (not_refused n)

  -- is the file's
  pub told_length : n ≡ length (file_of net initial w)
  told_length = let e = allowed_told net initial w (Ok n) asked told_writable in cc

  -- and no longer than the longest file
  pub told_few : n ≤ file_limit
  told_few =
      let a = told_writable in
      let l = longest_file net.places net.transitions (wide_rows net) (mask_of net.marks) (length w) a.sized.few_places a.sized.few_transitions (wide_most net) a.short in
      omega (arith, told_length, file_length_lem net initial w a.sized a.marked)

  -- it is the room that is needed: into as much the file is written, and into less nothing is
  module _ (room : List ℕ) (r : Answer ℕ) (room' : List ℕ) (promise : CaseWritten net initial w room r room') where
    pub told_is_written : n ≤ length room → r ≡ Ok n
    told_is_written h =
        let a : Allowed net initial w room = record { writable = told_writable; roomy = rw told_length at h } in
        (allowed_written net initial w room r room' promise a).0 ∙ ap Ok (sym told_length)

    pub short_refused : length room < n → r ≡ refused 14 0
    short_refused h = refused_by net initial w room r room' promise 14 0 (fault_last net initial w room told_writable (rw told_length at h))

-- what is refused instead of a length is refused instead of a file, into any room
pub refused_alike : (net : Net) (initial w : List ℕ) (n at : ℕ) → LengthTold net initial w (refused n at)
    → (room : List ℕ) (r : Answer ℕ) (room' : List ℕ) → CaseWritten net initial w room r room' → r ≡ refused n at
refused_alike net initial w n at asked room r room' promise =
    refused_by net initial w room r room' promise n at (fault_first net initial w room n at (length_fault net initial w (refused n at) asked n at refl))
