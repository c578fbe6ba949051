-- A case file there and back, for whatever keeps the promises of `write_case` and of `read_case`: what was written is read as it was meant, what was read is written as the same bytes, and no two have one file. Assumes nothing.
use Rattle.std.specs.Prelude.{Ok}
use Rattle.refusals.specs.Given.{Answer}
use Prim.Native.Nat.{ℕ, ◌≤◌}
use mathlib.Core.Path.{◌≡◌, refl, sym, ap, ◌∙◌}
use mathlib.Core.List.{List}
use lib.ListN.{length, take, drop}
use Rattle.ground.specs.Limits.{no_capacity}
use Rattle.net.specs.Net.{Net}
use Rattle.net.specs.Letter.{Small}
use Rattle.file_line.specs.declared.Rooms.{Rooms}
use Rattle.file_text.specs.Text.{file_of, Limited, Written as WrittenFile, filled, filed}
use Rattle.file_text.proofs.Meaning.{filled_net, filled_marking, filled_word, file_filed, file_apart}
use Rattle.file_entry.specs.declared.CaseFile.{CaseFile}
use Rattle.file_entry.specs.Entry.{read, Largest, CaseRead}
use Rattle.file_entry.proofs.Fronts.{largest_large}
use Rattle.file_entry.proofs.Filed.{filed_limited}
use Rattle.file_entry.proofs.Accepted.{filed_read, read_written as read-is-file}
use Rattle.file_write.specs.Told.{LengthTold, Writable}
use Rattle.file_write.specs.Entry.{CaseWritten}
use Rattle.file_write.proofs.Exactly.{allowed_told, allowed_written}
use Rattle.file_write.proofs.Meaning.{written_allowed, written_file, written_rest}
use Rattle.file_round.specs.Fronts.{front_net, front_marking, front_word}

-- what is written is within the limits as a file has it, its capacities being numbers in 16 bits
limited_of : (net : Net) (initial w : List ℕ) → Writable net initial w → Small no_capacity net.caps → Limited (filed net) initial w
limited_of net initial w a capacities = filed_limited net initial w a.sized a.wired a.light capacities a.marked a.fine a.short a.letters

of_limited : (net : Net) (initial w : List ℕ) → Limited net initial w → Writable net initial w
of_limited net initial w m = record { sized = m.sized; light = m.weights; marked = m.marked; fine = m.fine; wired = m.wired; short = m.short; letters = m.letters }

-- "reading what was written gives the same net and word", its marks as the reader gives them, 1 for any but 0: the first n bytes of
-- the room, into rooms of the largest sizes
module _ (net : Net) (initial w room : List ℕ) (n : ℕ) (room' : List ℕ) (written : CaseWritten net initial w room (Ok n) room') (capacities : Small no_capacity net.caps)
    (x : Rooms) (largest : Largest x) (r : Answer CaseFile) (x' : Rooms) (kept : CaseRead (take n room') x r x') where
  limited : Limited (filed net) initial w
  limited = limited_of net initial w (written_allowed net initial w room n room' written).writable capacities

  came : (r ≡ read net.places net.transitions (length w)) × (x' ≡ filled x (filed net) initial w)
  came = filed_read net initial w limited x r x' largest (rw (written_file net initial w room n room' written) at kept)

  pub read_written : (r ≡ read net.places net.transitions (length w))
      × (front_net net.places net.transitions x' ≡ filed net) × (front_marking net.places x' ≡ initial) × (front_word (length w) x' ≡ w)
  read_written = (
    came.0,
    ap (front_net net.places net.transitions) came.1 ∙ filled_net x (largest_large x largest) (filed net) initial w limited,
    ap (front_marking net.places) came.1 ∙ filled_marking x (largest_large x largest) (filed net) initial w limited,
    ap (front_word (length w)) came.1 ∙ filled_word x (largest_large x largest) (filed net) initial w limited,
  )

-- "writing what was read gives the same bytes": what the rooms hold at their fronts
module _ (file : List ℕ) (x : Rooms) (P T n : ℕ) (x' : Rooms) (kept : CaseRead file x (read P T n) x') where
  same : (file ≡ file_of (front_net P T x') (front_marking P x') (front_word n x')) × Limited (front_net P T x') (front_marking P x') (front_word n x')
  same = read-is-file file x (read P T n) x' kept P T n refl

  writable : Writable (front_net P T x') (front_marking P x') (front_word n x')
  writable = of_limited (front_net P T x') (front_marking P x') (front_word n x') same.1

  -- the length told of it is the file's
  pub told_read : (r : Answer ℕ) → LengthTold (front_net P T x') (front_marking P x') (front_word n x') r → r ≡ Ok (length file)
  told_read r asked = allowed_told (front_net P T x') (front_marking P x') (front_word n x') r asked writable ∙ ap (λ (l : List ℕ). Ok (length l)) (sym same.0)

  -- and into room for the file the file is written
  module _ (room : List ℕ) (r : Answer ℕ) (room' : List ℕ) (written : CaseWritten (front_net P T x') (front_marking P x') (front_word n x') room r room') (roomy : length file ≤ length room) where
    answer : r ≡ Ok (length file)
    answer =
        (allowed_written (front_net P T x') (front_marking P x') (front_word n x') room r room' written (record { writable = writable; roomy = rw same.0 at roomy })).0
        ∙ ap (λ (l : List ℕ). Ok (length l)) (sym same.0)

    pub write_read : (r ≡ Ok (length file)) × (take (length file) room' ≡ file) × (drop (length file) room' ≡ drop (length file) room)
    write_read =
        let p : CaseWritten (front_net P T x') (front_marking P x') (front_word n x') room (Ok (length file)) room' = rw answer at written in (
          answer,
          written_file (front_net P T x') (front_marking P x') (front_word n x') room (length file) room' p ∙ sym same.0,
          written_rest (front_net P T x') (front_marking P x') (front_word n x') room (length file) room' p,
        )

-- no two nets, markings or words have one file: where the bytes are the same, so are they, but for marks that are not 0, which count as 1
module _ (net net' : Net) (initial w room initial' w' other : List ℕ) (n k : ℕ) (room' other' : List ℕ)
    (written : CaseWritten net initial w room (Ok n) room') (written' : CaseWritten net' initial' w' other (Ok k) other')
    (capacities : Small no_capacity net.caps) (capacities' : Small no_capacity net'.caps) where
  pub written_apart : take n room' ≡ take k other' → (filed net ≡ filed net') × (initial ≡ initial') × (w ≡ w')
  written_apart e = file_apart (take n room') one two
    where
      one : WrittenFile (take n room')
      one =
          record {
            net = filed net;
            initial = initial;
            word = w;
            limited = limited_of net initial w (written_allowed net initial w room n room' written).writable capacities;
            text = written_file net initial w room n room' written ∙ sym (file_filed net initial w);
          }

      two : WrittenFile (take n room')
      two =
          record {
            net = filed net';
            initial = initial';
            word = w';
            limited = limited_of net' initial' w' (written_allowed net' initial' w' other k other' written').writable capacities';
            text = e ∙ written_file net' initial' w' other k other' written' ∙ sym (file_filed net' initial' w');
          }
