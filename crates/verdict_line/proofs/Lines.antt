-- Laws of the line that answers a file. Assumes nothing.
use Rattle.std.specs.Prelude.{Ok, Err}
use Rattle.refusals.specs.Given.{Answer, Fault}
use Rattle.refusals.proofs.Exactly.{not_refused}
use Prim.Native.Nat.{ℕ, ◌≤◌, ◌<◌}
use mathlib.Core.Path.{◌≡◌, refl, sym, subst, ◌∙◌}
use mathlib.Core.Bool.{Bool, true, ◌&&◌}
use mathlib.Core.List.{List}
use native.Mathlib.Omega.{arith}
use lib.ListN.{length}
use lib.Dec.{eqb}
use Rattle.ground.specs.Limits.{count_limit}
use Rattle.ground.proofs.Fill.{table_length}
use Rattle.file_line.specs.declared.Reading.{Reading}
use Rattle.file_line.specs.declared.Rooms.{Rooms}
use Rattle.file_line.specs.Read.{net_in}
use Rattle.net.specs.Net.{Net}
use Rattle.net.specs.Firing.{Names, cause_place}
use Rattle.net.specs.declared.Cause.{Cause}
use Rattle.net.specs.declared.Cause.TheVariants.{Short, Over}
use Rattle.plays.specs.Replay.{play_from}
use Rattle.replay.specs.Entry.{replay_fault, replay_of, answered, Replayed}
use Rattle.plays.specs.declared.Replay.{Replay}
use Rattle.plays.specs.declared.Replay.TheVariants.{Fired, Blocked}
use Rattle.replay.proofs.Meaning.{numbers_apart, answered_allowed, blocked_cause}
use Rattle.verdict_text.specs.Verdict.{bytes_of, WrittenBytes}
use Rattle.verdict_text.specs.Walk.{Placed}
use Rattle.file_text.specs.Text.{marking_in, word_in}
use Rattle.verdict_line.specs.Answer.{room_for, answer_for}

-- a cause names one of the net's places
named_place : (net : Net) (m : List ℕ) (t : ℕ) (why : Cause) → Names net m t why → cause_place why < net.places
named_place net m t (Short p) n = n.here
named_place net m t (Over p) n = n.here

-- of two rooms of one length either gives the same line
pub any_room : (net : Net) (initial w : List ℕ) (within : Bool) (room other : List ℕ) → length room ≡ length other
    → bytes_of (replay_of net initial w within room).answer (replay_of net initial w within room).left ≡ bytes_of (replay_of net initial w within other).answer (replay_of net initial w within other).left
any_room net initial w within room other e = rw e (go (replay_fault net initial w (eqb (length other) net.places && within)))
  where
    go : (f : Fault) → bytes_of (answered f (play_from net 0 initial w) room).answer (answered f (play_from net 0 initial w) room).left ≡ bytes_of (answered f (play_from net 0 initial w) other).answer (answered f (play_from net 0 initial w) other).left
    go (Ok _) = refl
    go (Err r) = refl

module _ (net : Net) (initial w : List ℕ) (within : Bool) (room : List ℕ) (r : Answer Replay) (room' : List ℕ) (p : Replayed net initial w within room r room') where
  -- an answer of a replay names places below the limit only
  pub placed : net.places ≤ count_limit → Placed r
  placed h = go r refl
    where
      go : (a : Answer Replay) → r ≡ a → Placed a
      go (Ok (Fired n)) e = tt
      go (Err q) e = tt
      go (Ok (Blocked i why)) e =
          let a = answered_allowed net initial w within room r room' p (λ n at q. not_refused (Blocked i why) n at (sym e ∙ q)) in
          let n = named_place net room' _ why (blocked_cause net initial w within room r room' p a i why e).1 in
          omega (arith, n)

  -- the bytes of the answer and of the marking left
  pub replayed_bytes : bytes_of r room' ≡ bytes_of (replay_of net initial w within room).answer (replay_of net initial w within room).left
  replayed_bytes = rw (numbers_apart r (replay_of net initial w within room).answer p.answer, p.left)

-- the line of a replay of what was read, in any room of its length
pub played_line : (s : Reading) (x : Rooms) (room : List ℕ) (r : Answer Replay) (room' out : List ℕ) (n : ℕ) (out' : List ℕ) → length room ≡ s.places
    → Replayed (net_in s x) (marking_in s x) (word_in s x) true room r room' → WrittenBytes out (bytes_of r room') n out' → WrittenBytes out (answer_for (Ok s) x) n out'
played_line s x room r room' out n out' e p w =
    let f : length room ≡ length (room_for s) = e ∙ sym (table_length (λ _. 0) s.places) in
    let b = replayed_bytes (net_in s x) (marking_in s x) (word_in s x) true room r room' p ∙ any_room (net_in s x) (marking_in s x) (word_in s x) true room (room_for s) f in
    subst (λ (z : List ℕ). WrittenBytes out z n out') b w
