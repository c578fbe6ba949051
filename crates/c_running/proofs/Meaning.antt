-- What C is handed: the promise has one answer and one state; nothing of an answer is lost on the way; a start that is refused leaves the state as found. Assumes nothing.
use Rattle.std.specs.Prelude.{Ok, Err}
use Rattle.refusals.specs.Given.{Answer, Fault, refused}
use Prim.Native.Nat.{ℕ}
use mathlib.Core.Path.{◌≡◌, refl, sym, ◌∙◌}
use mathlib.Core.Bool.{Bool, true, false, cond}
use mathlib.Core.List.{List}
use native.Mathlib.Omega.{arith}
use lib.Seq.{sets}
use lib.Dec.{eqb}
use borrow.Author.Tests.{ne_eqb, not-true, eqb-false}
use Rattle.net.specs.Net.{Net}
use Rattle.net.specs.declared.Cause.TheVariants.{Short, Over}
use Rattle.refusals.specs.Given.{marked_fault}
use Rattle.plays.specs.Replay.{play_from}
use Rattle.plays.specs.declared.Replay.{Replay}
use Rattle.plays.specs.declared.Replay.TheVariants as ran
use Rattle.running.specs.State.{held, is_blocked, went_on, played_on, held_block, part_fault, fed_by, fed_of}
use Rattle.running.specs.Entry.{numbers, started_by, start_of}
use Rattle.running.specs.declared.Running.{Running}
use Rattle.running.specs.declared.Part.{Part}
use Rattle.running.specs.declared.Part.TheVariants.{Fired, Blocked}
use Rattle.running.specs.declared.Fed.{Fed}
use Rattle.c_replay.specs.Handed.{handed_replay}
use Rattle.c_replay.specs.declared.ReplayAnswer.{ReplayAnswer}
use Rattle.c_running.specs.Handed.{begun, HandedPart}

pub unique_part : (x : Fed) (r r' : ReplayAnswer) (s s' : Running) → HandedPart x r s → HandedPart x r' s' → (r ≡ r') × (s ≡ s')
unique_part x r r' s s' a b = (a.answer ∙ sym b.answer, a.state ∙ sym b.state)

pub start_as_found : (fed : Fed) (s s' : Running) (r : ReplayAnswer) (n at : ℕ) → fed.answer ≡ refused n at → HandedPart (begun fed s) r s' → s' ≡ s
start_as_found fed s s' r n at e h = rw e at h.state

-- a block has a cause: 0 would be read as fired
abbrev pub Named : Answer Part → Type 0
Named (Ok (Fired n)) = Unit {0}
Named (Ok (Blocked c n p)) = c ≡ 0 → ⊥
Named (Err r) = Unit {0}

went_named : (s : Running) (m : List ℕ) (r : Replay) → Named (went_on s m r).answer
went_named s m (ran.Fired n) = tt
went_named s m (ran.Blocked n (Short p)) = λ e. omega arith
went_named s m (ran.Blocked n (Over p)) = λ e. omega arith

pub part_named : (net : Net) (s : Running) (w : List ℕ) → Named (fed_of net s w).answer
unfolding fed_of
part_named net s w = go (part_fault net s w)
  where
    by : (b : Bool) → is_blocked s.blocked ≡ b → Named (cond b (held_block s) (played_on net s w)).answer
    by true e = eqb-false s.blocked 0 (not-true (eqb s.blocked 0) e)
    by false e = went_named s (sets s.marking 0 (play_from net s.fired (held net s) w).left) (play_from net s.fired (held net s) w).answer

    go : (f : Fault) → Named (fed_by f net s w).answer
    go (Err r) = tt
    go (Ok _) = by (is_blocked s.blocked) refl

pub start_named : (net : Net) (initial : List ℕ) → Named (start_of net initial).answer
unfolding start_of
start_named net initial = go (marked_fault net initial true)
  where
    go : (f : Fault) → Named (started_by f initial).answer
    go (Err r) = tt
    go (Ok _) = tt

abbrev pub part_of : ReplayAnswer → Answer Part
part_of r =
    cond (eqb r.kind 0x82) (refused r.number r.position)
    (cond (eqb r.number 0) (Ok (Fired r.position)) (Ok (Blocked r.number r.position r.place)))

pub part_whole : (a : Answer Part) → Named a → part_of (handed_replay (numbers a)) ≡ a
unfolding handed_replay
part_whole (Ok (Fired n)) h = refl
part_whole (Ok (Blocked c n p)) h = rw (ne_eqb c 0 h)
part_whole (Err r) h = refl
