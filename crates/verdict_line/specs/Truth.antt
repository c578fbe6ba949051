-- To be believed: what is true of a file whose line says an answer ("Output, one such line with its line feed").
use Rattle.std.specs.Prelude.{Ok, Err, ℕ, ◌<◌, ◌≡◌, List, length, get_or, take}
use Rattle.net.specs.Net.{Net}
use Rattle.net.specs.Firing.{Fires, Names}
use Rattle.net.specs.declared.Cause.{Cause}
use Rattle.plays.specs.declared.Replay.{Replay}
use Rattle.refusals.specs.Given.{Answer}
use Rattle.plays.specs.declared.Replay.TheVariants.{Fired, Blocked}
use Rattle.file_line.specs.declared.Rooms.{Rooms}
use Rattle.file_text.specs.Text.{Written}
use Rattle.file_text.specs.Refusal.{RefusedFile}

-- "Where a letter isn't enabled, the replay stops": the letters before letter i fire from m to a marking of which the cause is true
pub record StopsAt (net : Net) (m w : List ℕ) (i : ℕ) (why : Cause) : Type 0 where
  pub inside : i < length w
  pub marking : List ℕ
  pub fires : Fires net m (take i w) marking
  pub cause : Names net marking (get_or w i 0) why

-- 81 00: the file is that of a net, a marking and a word within the limits, and the whole word, of n letters, fires to the marking m;
-- 81 01 or 81 02: it is such a file, and its word stops at letter i, short or over at a place; 82: it is refused with number n on line l
abbrev pub TrueOf : Rooms → List ℕ → Answer Replay → List ℕ → Type 0
TrueOf x file (Ok (Fired n)) m = (f : Written file) × (n ≡ length f.word) × Fires f.net f.initial f.word m
TrueOf x file (Ok (Blocked i why)) m = (f : Written file) × StopsAt f.net f.initial f.word i why
TrueOf x file (Err r) m = RefusedFile x file r.number r.at
