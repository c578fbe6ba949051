-- What it means to write a case file back: a whole file comes back byte by byte, and a refused one with its number and line. Assumes nothing.
use Prim.Native.Nat.{ℕ, ◌≤◌}
use mathlib.Core.Path.{◌≡◌, refl, sym, ap, ◌∙◌}
use mathlib.Core.List.{List}
use native.Mathlib.Omega.{arith}
use lib.ListN.{length}
use lib.Seq.{sets}
use Rattle.std.specs.Prelude.{Ok, Err}
use Rattle.refusals.specs.Given.{Answer, refused}
use Rattle.net.specs.Net.{Net}
use Rattle.file_mask.specs.Mask.{mask_of}
use Rattle.file_line.specs.declared.Reading.{Reading}
use Rattle.file_line.specs.declared.Rooms.{Rooms}
use Rattle.file_line.specs.Read.{net_in}
use Rattle.file_line.specs.Walk.{Large}
use Rattle.file_parts.specs.File.{Case, read_of, case_of}
use Rattle.file_text.specs.Text.{Limited, file_of, marking_in, word_in}
use Rattle.file_text.proofs.Meaning.{read_file}
use Rattle.file_out.specs.Length.{wide_rows, file_limit}
use Rattle.file_out.proofs.Length.{file_length_lem, wide_most, longest_file}
use Rattle.file_write.specs.Told.{Writable}
use Rattle.file_write.specs.Entry.{CaseWritten, Allowed}
use Rattle.file_write.proofs.Exactly.{numbers_apart, allowed_written}
use Rattle.file_write.proofs.Meaning.{written_allowed, written_length}
use Rattle.file_again.specs.Again.{again_for, file_again, WrittenAgain}

-- what a file within the limits holds can be written, and is no longer than the longest file
limited_few : (net : Net) (initial w : List ℕ) → Limited net initial w → length (file_of net initial w) ≤ file_limit
limited_few net initial w m =
    let l = longest_file net.places net.transitions (wide_rows net) (mask_of net.marks) (length w) m.sized.few_places m.sized.few_transitions (wide_most net) m.short in
    omega (arith, file_length_lem net initial w m.sized m.marked)

limited_writable : (net : Net) (initial w : List ℕ) → Limited net initial w → Writable net initial w
limited_writable net initial w m = record { sized = m.sized; light = m.weights; marked = m.marked; fine = m.fine; wired = m.wired; short = m.short; letters = m.letters }

-- the promise determines the answer and the room
pub unique : (c : Case) (x : Rooms) (out : List ℕ) (r r' : Answer ℕ) (a b : List ℕ) → WrittenAgain c x out r a → WrittenAgain c x out r' b → (r ≡ r') × (a ≡ b)
unique c x out r r' a b p q = (numbers_apart r r' (p.answer ∙ sym q.answer), p.left ∙ sym q.left)

pub again_is : (c : Case) (x : Rooms) (out : List ℕ) (r : Answer ℕ) (out' : List ℕ) → WrittenAgain c x out r out' → r ≡ (again_for c x out).answer
again_is c x out r out' p = numbers_apart r (again_for c x out).answer p.answer

-- what was written fits the room
pub written_fits : (c : Case) (x : Rooms) (out : List ℕ) (r : Answer ℕ) (out' : List ℕ) → WrittenAgain c x out r out' → (n : ℕ) → r ≡ Ok n → n ≤ length out
written_fits (Ok s) x out r out' p n e =
    let g : CaseWritten (net_in s x) (marking_in s x) (word_in s x) out r out' = record { answer = p.answer; left = p.left } in
    let q : CaseWritten (net_in s x) (marking_in s x) (word_in s x) out (Ok n) out' = rw e at g in
    omega (arith, written_length _ _ _ out n out' q, (written_allowed _ _ _ out n out' q).roomy)
written_fits (Err k) x out r out' p n e = let z : ◌≡◌ {A = ℕ} 0x81 0x82 = cc in absurd (omega arith)

-- a refused file: the number and the line of its verdict line, and the room as found
pub refused_same : (f : List ℕ) (x : Rooms) (out : List ℕ) (n l : ℕ) → case_of (read_of x f).run ≡ refused n l → ((file_again f x out).answer ≡ refused n l) × ((file_again f x out).left ≡ out)
refused_same f x out n l w =
    let y = (read_of x f).rooms in
    (ap (λ (c : Case). (again_for c y out).answer) w, ap (λ (c : Case). (again_for c y out).left) w)

-- a file, read into rooms that are large enough
module _ (f : List ℕ) (x : Rooms) (large : Large x) (out : List ℕ) where
  -- "writing what was read gives the same bytes": a whole file comes back, at the front of a room for the longest one
  module _ (s : Reading) (w : case_of (read_of x f).run ≡ Ok s) where
    -- a file that was accepted is no longer than the longest
    pub whole_few : length f ≤ file_limit
    whole_few =
        let g = read_file x large f s w in
        omega (arith, ap length g.0, limited_few _ _ _ g.1)

    pub same_bytes : file_limit ≤ length out → ((file_again f x out).answer ≡ Ok (length f)) × ((file_again f x out).left ≡ sets out 0 f)
    same_bytes h =
        let y = (read_of x f).rooms in
        let g = read_file x large f s w in
        let a : Allowed (net_in s y) (marking_in s y) (word_in s y) out = record { writable = limited_writable _ _ _ g.1; roomy = omega (arith, limited_few _ _ _ g.1) } in
        let p : CaseWritten (net_in s y) (marking_in s y) (word_in s y) out _ _ = record { answer = refl; left = refl } in
        let m = allowed_written (net_in s y) (marking_in s y) (word_in s y) out _ _ p a in (
          ap (λ (c : Case). (again_for c y out).answer) w ∙ m.0 ∙ ap (λ (l : List ℕ). Ok (length l)) (sym g.0),
          ap (λ (c : Case). (again_for c y out).left) w ∙ m.1 ∙ ap (sets out 0) (sym g.0),
        )
