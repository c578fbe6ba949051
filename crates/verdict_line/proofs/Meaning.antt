-- What the program's line means. Assumes nothing.
use Rattle.std.specs.Prelude.{Ok, Err}
use Rattle.refusals.specs.Given.{refused}
use Rattle.refusals.proofs.Chains.{refused_one}
use Prim.Native.Nat.{ℕ, ◌<◌}
use mathlib.Core.Path.{◌≡◌, refl, sym, subst, ap, ◌∙◌}
use mathlib.Core.Bool.{true}
use mathlib.Core.List.{List, [], ◌∷◌, ◌++◌}
use native.Mathlib.Omega.{arith}
use lib.ListN.{length}
use Rattle.ground.proofs.Fill.{table_length}
use Rattle.file_digits.specs.Frame.{all_digits, line_feed}
use Rattle.file_put.specs.Put.{digits_of, line_text}
use Rattle.file_digits.proofs.Bytes.{Below}
use Rattle.file_line.specs.declared.Reading.{Reading}
use Rattle.file_line.specs.declared.Rooms.{Rooms}
use Rattle.file_line.specs.Read.{fresh, net_in}
use Rattle.file_line.specs.Walk.{Large}
use Rattle.file_parts.specs.File.{Both, Case, both, going, stopped, feed_all, read_of, together, feed_parts, case_of}
use Rattle.file_parts.proofs.Line.{stays, all_append, any_cutting}
use Rattle.net.specs.Firing.{Fires}
use Rattle.replay.specs.Entry.{Replayed, Allowed}
use Rattle.plays.specs.declared.Replay.TheVariants.{Fired}
use Rattle.replay.proofs.Meaning.{allowed_answered, fires_fired}
use Rattle.verdict_text.specs.Verdict.{bytes_of}
use Rattle.verdict_text.proofs.Meaning.{bytes_below}
use Rattle.file_text.specs.Text.{marking_in, word_in}
use Rattle.file_put.proofs.Round.{digits_all}
use Rattle.file_text.proofs.Meaning.{limited_allowed, read_file}
use Rattle.verdict_line.specs.Answer.{room_for, ran_read, answer_for, line_for, line_at, file_line}
use Rattle.verdict_line.proofs.Lines.{placed}
use Rattle.verdict_line.proofs.Numbers.{small_number}

-- however a file is cut into parts, its line is that of the whole file
pub line_by_parts : (ps : List (List ℕ)) (x : Rooms) → line_at (feed_parts (both (going fresh []) x) ps) ≡ file_line (together ps) x
line_by_parts ps x = ap line_at (any_cutting (both (going fresh []) x) ps)

-- "the earliest faulty line decides": after a refusal no byte changes the line, so that the program need not read on
pub refusal_decides : (f g : List ℕ) (x y : Rooms) (n l : ℕ) → read_of x f ≡ both (stopped n l) y → file_line (f ++ g) x ≡ file_line f x
refusal_decides f g x y n l e =
    ap line_at (all_append (both (going fresh []) x) f g ∙ ap (λ (z : Both). feed_all z g) e ∙ stays n l y g ∙ sym e)

-- the answer of a replay is what its definition says
pub replayed : (s : Reading) (x : Rooms) → Replayed (net_in s x) (marking_in s x) (word_in s x) true (room_for s) (ran_read s x).answer (ran_read s x).left
replayed s x = record { answer = refl; left = refl }

-- of a whole case that document 01 allows the line is a verdict, 81, and never a refusal
pub allowed_not_refused : (s : Reading) (x : Rooms) → Allowed (net_in s x) (marking_in s x) (word_in s x) true (room_for s) → (n at : ℕ) → (ran_read s x).answer ≡ refused n at → ⊥
allowed_not_refused s x a = allowed_answered (net_in s x) (marking_in s x) (word_in s x) true (room_for s) (ran_read s x).answer (ran_read s x).left (replayed s x) a

-- where the whole word fires, the line says so, with its letters and the marking that it fires to
pub whole_fires : (s : Reading) (x : Rooms) (m : List ℕ) → Allowed (net_in s x) (marking_in s x) (word_in s x) true (room_for s) → Fires (net_in s x) (marking_in s x) (word_in s x) m
    → answer_for (Ok s) x ≡ bytes_of (Ok (Fired (length (word_in s x)))) m
whole_fires s x m a f =
    let e = fires_fired (net_in s x) (marking_in s x) (word_in s x) true (room_for s) (ran_read s x).answer (ran_read s x).left (replayed s x) a m f in
    rw (e.0, e.1)

-- "one such line with its line feed": digits 0-9 and A-F, then the only line feed
pub record OneLine (l : List ℕ) : Type 0 where
  pub digits : List ℕ
  pub ends : l ≡ digits ++ (line_feed ∷ [])
  pub only : all_digits digits ≡ true

line_of_bytes : (bs : List ℕ) → Below 256 bs → OneLine (line_text bs)
line_of_bytes bs b = record { digits = digits_of bs; ends = refl; only = digits_all bs b }

-- what the line is written for: a case that document 01 allows, or a refusal whose number is one byte
abbrev pub Told : Case → Rooms → Type 0
Told (Ok s) x = Allowed (net_in s x) (marking_in s x) (word_in s x) true (room_for s)
Told (Err r) x = r.number < 256

pub one_line : (c : Case) (x : Rooms) → Told c x → OneLine (line_for c x)
one_line (Err r) x h = line_of_bytes _ (bytes_below (Err r) [] tt (λ k at e. let z = (refused_one r.number r.at k at e).0 in omega (arith, z, h)))
one_line (Ok s) x a =
    line_of_bytes _
    (bytes_below (ran_read s x).answer (ran_read s x).left
    (placed (net_in s x) (marking_in s x) (word_in s x) true (room_for s) (ran_read s x).answer (ran_read s x).left (replayed s x) a.sized.few_places)
    (λ n at e. absurd (allowed_not_refused s x a n at e)))

-- any file, read into rooms that are large enough
module _ (f : List ℕ) (x : Rooms) (l : Large x) where
  -- what was read of a whole file is within the limits, and a refusal's number is one byte
  file_told : Told (case_of (read_of x f).run) (read_of x f).rooms
  file_told = go (case_of (read_of x f).run) refl
    where
      go : (c : Case) → case_of (read_of x f).run ≡ c → Told c (read_of x f).rooms
      go (Ok s) e = limited_allowed _ _ _ (room_for s) (read_file x l f s e).1 (table_length (λ _. 0) s.places)
      go (Err r) e = small_number f fresh x r.number r.at e

  -- the answer to any file is one line
  pub file_one_line : OneLine (file_line f x)
  file_one_line = one_line (case_of (read_of x f).run) (read_of x f).rooms file_told

  module _ (s : Reading) (w : case_of (read_of x f).run ≡ Ok s) where
    -- the reader has checked all that document 01 asks of a replay
    pub whole_allowed : Allowed (net_in s (read_of x f).rooms) (marking_in s (read_of x f).rooms) (word_in s (read_of x f).rooms) true (room_for s)
    whole_allowed = subst (λ (c : Case). Told c (read_of x f).rooms) w file_told

    -- so a whole file is answered by a verdict, 81, and never by 82
    pub whole_never_refused : (n at : ℕ) → (ran_read s (read_of x f).rooms).answer ≡ refused n at → ⊥
    whole_never_refused = allowed_not_refused s (read_of x f).rooms whole_allowed
