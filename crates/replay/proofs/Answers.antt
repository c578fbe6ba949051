-- Laws of the whole answer: the refusal that is given, or the replay that was run. Assumes nothing.
use Rattle.std.specs.Prelude.{Ok, Err}
use Rattle.refusals.specs.Given.{Answer, Fault}
use Rattle.refusals.specs.declared.Refusal.{Refusal}
use Prim.Native.Nat.{ℕ, ◌≤◌, ◌<◌}
use mathlib.Core.Path.{◌≡◌, refl, sym, ap, ◌∙◌}
use mathlib.Core.Bool.{Bool, true, false, ◌&&◌, and-false}
use mathlib.Core.List.{List}
use mathlib.Core.Logic.{◌⊎◌, inl, inr}
use lib.ListN.{length}
use lib.Dec.{leb, eqb}
use borrow.Author.Tests.{eqb-true, lt-leb}
use Rattle.ground.specs.Limits.{word_limit}
use Rattle.ground.proofs.Tests.{never, and-true}
use Rattle.net.specs.Net.{Net, Sized, Light}
use Rattle.wiring.specs.Wired.{Wired}
use Rattle.refusals.specs.Given.{counts_fault, marked_fault, word_fault, stretch, inside, Fine, Letters}
use Rattle.refusals.proofs.Chains.{or_sound, sound_or}
use Rattle.refusals.proofs.Refusals.{counts_met, marked_met, met_marked, counts_unfit, marked_unfit}
use Rattle.refusals.proofs.Words.{word_met, met_word}
use Rattle.plays.specs.Replay.{play_from, Ended}
use Rattle.replay.specs.Entry.{Answered, replay_fault, answered, replay_of, numbers, Replayed}
use Rattle.plays.specs.declared.Replay.{Replay}

-- nothing is refused exactly where all this holds
pub record Sane (net : Net) (initial w : List ℕ) (fits : Bool) : Type 0 where
  pub sized : Sized net
  pub light : Light net
  pub marked : length initial ≡ net.places
  pub fitting : fits ≡ true
  pub fine : Fine net.caps initial
  pub wired : Wired net
  pub short : length w ≤ word_limit
  pub letters : Letters net.transitions w

pub sane_of : (net : Net) (initial w : List ℕ) (fits : Bool) → replay_fault net initial w fits ≡ Ok tt → Sane net initial w fits
unfolding replay_fault
sane_of net initial w fits e =
    let a = or_sound (marked_fault net initial fits) (word_fault net.transitions w) e in
    let f = marked_met net initial fits a.0 in
    let l = word_met net.transitions w a.1 in
    record { sized = f.sized; light = f.light; marked = f.marked; fitting = f.fitting; fine = f.fine; wired = f.wired; short = l.short; letters = l.letters }

pub sane_is : (net : Net) (initial w : List ℕ) (fits : Bool) → Sane net initial w fits → replay_fault net initial w fits ≡ Ok tt
unfolding replay_fault
sane_is net initial w fits s =
    sound_or _ _
    (met_marked net initial fits (record { sized = s.sized; light = s.light; marked = s.marked; fitting = s.fitting; fine = s.fine; wired = s.wired }))
    (met_word net.transitions w (record { short = s.short; letters = s.letters }))

-- where the room or the stretch does not fit, the letters do not matter
unfit_fault : (net : Net) (initial w : List ℕ) → replay_fault net initial w false ≡ counts_fault net false
unfolding replay_fault
unfit_fault net initial w = rw (marked_unfit net initial) (counts_unfit net (word_fault net.transitions w))

unfit_same : (net : Net) (initial u w room : List ℕ) → replay_of net initial u false room ≡ replay_of net initial w false room
unfit_same net initial u w room = rw and-false (rw (unfit_fault net initial u, unfit_fault net initial w) (go (counts_fault net false) refl))
  where
    go : (f : Fault) → counts_fault net false ≡ f → answered (counts_fault net false) (play_from net 0 initial u) room ≡ answered (counts_fault net false) (play_from net 0 initial w) room
    go (Err r) e = rw e
    go (Ok _) e = never (sym (counts_met net false e).fitting)

-- the answer, from the fault that was found
module _ (net : Net) (initial w : List ℕ) (within : Bool) (room : List ℕ) (fits : Bool) (found : Fault)
    (ef : fits ≡ (eqb (length room) net.places && within)) (e : found ≡ replay_fault net initial w fits) where
  is_found : (f : Fault) → found ≡ f → replay_fault net initial w (eqb (length room) net.places && within) ≡ f
  is_found f q = rw (← ef) (sym e ∙ q)

  pub replayed_refused : (e : Refusal) → found ≡ Err e → Replayed net initial w within room (Err e) room
  replayed_refused e q = record { answer = rw (is_found (Err e) q); left = rw (is_found (Err e) q) }

  pub replayed_ended : (m : List ℕ) (r : Replay) (m' : List ℕ) → found ≡ Ok tt → m ≡ initial → Ended net 0 m w r m' → Replayed net initial w within room (Ok r) m'
  replayed_ended m r m' q l p =
      record { answer = rw (is_found (Ok tt) q, ← l) (ap (λ (z : Replay). numbers (Ok z)) p.answer); left = rw (is_found (Ok tt) q, ← l) p.left }

  pub sane_room : found ≡ Ok tt → Sane net initial w (eqb (length room) net.places && within)
  sane_room q = sane_of net initial w (eqb (length room) net.places && within) (is_found (Ok tt) q)

pub ruleset replayeds = (replayed_refused, replayed_ended)

pub room_long : (net : Net) (initial w : List ℕ) (within : Bool) (room : List ℕ) → Sane net initial w (eqb (length room) net.places && within) → length initial ≡ length room
room_long net initial w within room s =
    s.marked ∙ sym (eqb-true (length room) net.places (and-true (eqb (length room) net.places) within s.fitting).0)

-- a stretch that is no part of its word
module _ (net : Net) (initial w : List ℕ) (a b : ℕ) (room : List ℕ) (r : Answer Replay) (room' : List ℕ) where
  not_inside : (b < a) ⊎ (length w < b) → inside w a b ≡ false
  not_inside (inl h) = rw (lt-leb a b h)
  not_inside (inr h) = rw (lt-leb b (length w) h) (and-false (leb a b))

  pub stretch_none : (b < a) ⊎ (length w < b) → Replayed net initial w false room r room' → Replayed net initial (stretch w a b) (inside w a b) room r room'
  stretch_none h p =
      let q = unfit_same net initial (stretch w a b) w room in
      rw (not_inside h)
      (record { answer = p.answer ∙ sym (ap (λ (z : Answered). numbers z.answer) q); left = p.left ∙ sym (ap (λ (z : Answered). z.left) q) })
