-- Marks that are alike change no answer of a replay (document 02, E5; `uncapped_plain` and `marks_alike` of crate net say which are). Assumes nothing.
use Prim.Native.Nat.{ℕ, ◌+◌}
use mathlib.Core.Path.{◌≡◌, refl, sym, ap, ◌∙◌}
use mathlib.Core.Bool.{Bool, ◌&&◌}
use mathlib.Core.List.{List, [], ◌∷◌}
use lib.ListN.{length}
use lib.Dec.{eqb}
use Rattle.net.specs.Net.{Net}
use Rattle.net.specs.Letter.{judge_at, fired_at}
use Rattle.net.specs.Marks.{remarked, MarksAlike}
use Rattle.std.specs.Prelude.{Result, Ok, Err}
use Rattle.refusals.specs.Given.{Answer}
use Rattle.net.specs.declared.Cause.{Cause}
use Rattle.net.proofs.Pockets.{alike_judge}
use Rattle.refusals.proofs.Marks.{remarked_marked}
use Rattle.plays.specs.Replay.{Ran, play_from}
use Rattle.replay.specs.Entry.{Answered, replay_fault, replay_of, answered, numbers, Replayed}
use Rattle.plays.specs.declared.Replay.{Replay}
use Rattle.replay.proofs.Meaning.{unique}

module _ (net : Net) (marks : List ℕ) (alike : MarksAlike net.caps net.marks marks) where
  pub same_play : (i : ℕ) (m w : List ℕ) → play_from net i m w ≡ play_from (remarked net marks) i m w
  unfolding play_from
  same_play i m [] = refl
  same_play i m (t ∷ w) = go (judge_at net t m) refl (same_play (i + 1) (fired_at net t m) w)
    where
      go : (l : Result Unit Cause) → judge_at net t m ≡ l → play_from net (i + 1) (fired_at net t m) w ≡ play_from (remarked net marks) (i + 1) (fired_at net t m) w → play_from net i m (t ∷ w) ≡ play_from (remarked net marks) i m (t ∷ w)
      go (Ok _) e r = rw (← alike_judge net marks alike t m, e, play_from) r
      go (Err why) e r = rw (← alike_judge net marks alike t m, e, play_from)

  same_fault : (initial w : List ℕ) (fits : Bool) → replay_fault net initial w fits ≡ replay_fault (remarked net marks) initial w fits
  unfolding replay_fault
  same_fault initial w fits = rw (remarked_marked net marks alike.long initial fits)

  same_replay : (initial w : List ℕ) (within : Bool) (room : List ℕ) → replay_of net initial w within room ≡ replay_of (remarked net marks) initial w within room
  same_replay initial w within room =
      ap (λ (ran : Ran). answered (replay_fault net initial w (eqb (length room) net.places && within)) ran room) (same_play 0 initial w)
      ∙ rw (same_fault initial w (eqb (length room) net.places && within))

  -- two replays that differ in the marks only have one answer, and one content of the room
  pub replay_alike : (initial w : List ℕ) (within : Bool) (room : List ℕ) (r r' : Answer Replay) (m m' : List ℕ) → Replayed net initial w within room r m → Replayed (remarked net marks) initial w within room r' m' → (r ≡ r') × (m ≡ m')
  replay_alike initial w within room r r' m m' a b =
      let e = sym (same_replay initial w within room) in
      unique net initial w within room r r' m m' a
      (record { answer = b.answer ∙ ap (λ (z : Answered). numbers z.answer) e; left = b.left ∙ ap (λ (z : Answered). z.left) e })
