-- Marks that are alike change no part's answer and no state (document 02, E5; `uncapped_plain` and `marks_alike` of crate net say which are). Assumes nothing.
use Rattle.std.specs.Prelude.{Ok, Err}
use Rattle.refusals.specs.Given.{Fault}
use Prim.Native.Nat.{ℕ}
use mathlib.Core.Path.{◌≡◌, refl, ap, ◌∙◌}
use mathlib.Core.Bool.{true, cond}
use mathlib.Core.List.{List}
use lib.Seq.{sets}
use Rattle.net.specs.Net.{Net}
use Rattle.net.specs.Marks.{remarked, MarksAlike}
use Rattle.refusals.proofs.Marks.{remarked_counts, remarked_loose, remarked_marked}
use Rattle.plays.specs.Replay.{Ran}
use Rattle.replay.proofs.Marks.{same_play}
use Rattle.running.specs.State.{held, is_blocked, state_fault, part_fault, went_on, played_on, held_block, fed_by, fed_of}
use Rattle.running.specs.Entry.{start_of, started_by}
use Rattle.running.specs.declared.Running.{Running}

module _ (net : Net) (marks : List ℕ) (alike : MarksAlike net.caps net.marks marks) where
  same_fault : (s : Running) (w : List ℕ) → part_fault net s w ≡ part_fault (remarked net marks) s w
  unfolding part_fault state_fault
  same_fault s w = rw (remarked_counts net marks alike.long true, remarked_loose net marks alike.long)

  same_played : (s : Running) (w : List ℕ) → played_on net s w ≡ played_on (remarked net marks) s w
  same_played s w =
      ap (λ (z : Ran). went_on s (sets s.marking 0 z.left) z.answer) (same_play net marks alike s.fired (held net s) w)

  same_fed : (f : Fault) (s : Running) (w : List ℕ) → fed_by f net s w ≡ fed_by f (remarked net marks) s w
  same_fed (Ok _) s w = ap (cond (is_blocked s.blocked) (held_block s)) (same_played s w)
  same_fed (Err r) s w = refl

  pub part_alike : (s : Running) (w : List ℕ) → fed_of net s w ≡ fed_of (remarked net marks) s w
  unfolding fed_of
  part_alike s w =
      same_fed (part_fault net s w) s w ∙ ap (λ (f : Fault). fed_by f (remarked net marks) s w) (same_fault s w)

  pub start_alike : (initial : List ℕ) → start_of net initial ≡ start_of (remarked net marks) initial
  unfolding start_of
  start_alike initial = ap (λ (f : Fault). started_by f initial) (remarked_marked net marks alike.long initial true)
