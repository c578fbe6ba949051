-- Laws of a summary asked against a marking. Assumes nothing.
use Rattle.std.specs.Prelude.{Ok, Err, Option, Some, None}
use Rattle.std.specs.Option.{is_some}
use Rattle.ground.specs.Lists.{found}
use Rattle.ground.proofs.Scan.{found_first, found_none}
use Rattle.refusals.specs.Given.{Answer, refused}
use Rattle.refusals.proofs.Exactly.{same_refusal}
use Prim.Native.Nat.{ℕ}
use mathlib.Core.Path.{◌≡◌, sym, refl}
use mathlib.Core.Bool.{Bool, true, false, ◌&&◌}
use mathlib.Core.List.{List}
use native.Mathlib.Omega.{arith}
use lib.ListN.{length}
use lib.Dec.{eqb}
use borrow.Author.Tests.{lt-leb, le-leb, leb-true, eqb-true, eq-eqb}
use Rattle.ground.proofs.Tests.{never, and-true}
use Rattle.net.specs.Net.{Net}
use Rattle.refusals.specs.Given.{refuse, outside, marked_fault}
use Rattle.refusals.proofs.Chains.{or_sound, sound_or, sound_refuse}
use Rattle.refusals.proofs.Refusals.{marked_met, met_marked, inside_is}
use Rattle.summary_asked.specs.Asked.{lowest_no, ends, Suffices}
use Rattle.summary_place.specs.declared.Slot.{Slot}
use Rattle.summary_asked.proofs.Tests.{suffices_of, of_suffices}
use Rattle.summary_form.specs.Summary.{shape_fault}
use Rattle.summary_ask.specs.Ask.{ask_fault, says_yes, ask_answer, asked_numbers, Replied}
use Rattle.summary_ask.specs.Allowed.{AskAllowed}
use Rattle.summary_ask.specs.Walk.{SlotsAsked}
use Rattle.summary_form.specs.declared.Summary.{Summary}
use Rattle.summary_ask.specs.declared.Asked.{Asked}
use Rattle.summary_ask.specs.declared.Asked.TheVariants.{Yes, No}
use Rattle.summary_form.proofs.Formed.{formed_of_lem, of_formed}

-- `asked_numbers` tells any two answers apart
pub asked_apart : (a b : Answer Asked) → asked_numbers a ≡ asked_numbers b → a ≡ b
asked_apart (Ok Yes) (Ok Yes) e = refl
asked_apart (Ok Yes) (Ok No) e = let z : ◌≡◌ {A = ℕ} 0 1 = cc in absurd (omega arith)
asked_apart (Ok Yes) (Err k) e = let z : ◌≡◌ {A = ℕ} 0x81 0x82 = cc in absurd (omega arith)
asked_apart (Ok No) (Ok Yes) e = let z : ◌≡◌ {A = ℕ} 1 0 = cc in absurd (omega arith)
asked_apart (Ok No) (Ok No) e = refl
asked_apart (Ok No) (Err k) e = let z : ◌≡◌ {A = ℕ} 0x81 0x82 = cc in absurd (omega arith)
asked_apart (Err r) (Ok Yes) e = let z : ◌≡◌ {A = ℕ} 0x82 0x81 = cc in absurd (omega arith)
asked_apart (Err r) (Ok No) e = let z : ◌≡◌ {A = ℕ} 0x82 0x81 = cc in absurd (omega arith)
asked_apart (Err r) (Err k) e = let x : r.number ≡ k.number = cc in let y : r.at ≡ k.at = cc in same_refusal r k x y

-- the slots' answer, from the place that was found
module _ (slots : List Slot) (caps m room : List ℕ) where
  pub slots_no : (o : Option ℕ) → o ≡ found (length m) (lowest_no slots caps m) → is_some o ≡ true → SlotsAsked slots caps m room (Ok No) room
  slots_no (Some k) e h =
      let q = lt-leb (length m) (lowest_no slots caps m) (found_first (length m) (lowest_no slots caps m) k e).1 in
      record { answer = rw q; left = rw q }
  slots_no None e h = never (sym h)

  pub slots_yes : (o : Option ℕ) (room' : List ℕ) → o ≡ found (length m) (lowest_no slots caps m) → is_some o ≡ false → room' ≡ ends slots m → SlotsAsked slots caps m room (Ok Yes) room'
  slots_yes None room' e h q =
      let l = le-leb (length m) (lowest_no slots caps m) (found_none (length m) (lowest_no slots caps m) e) in
      record { answer = rw l; left = rw l q }
  slots_yes (Some k) room' e h q = never h

-- nothing is refused exactly where all that 01 asks holds
module _ (net : Net) (m : List ℕ) (s : Summary) (room : List ℕ) where
  pub fits_of : (eqb (length room) net.places && eqb s.places net.places) ≡ true → (length room ≡ net.places) × (s.places ≡ net.places)
  fits_of e = let f = and-true (eqb (length room) net.places) (eqb s.places net.places) e in (eqb-true _ _ f.0, eqb-true _ _ f.1)

  pub of_fits : (length room ≡ net.places) × (s.places ≡ net.places) → (eqb (length room) net.places && eqb s.places net.places) ≡ true
  of_fits f = rw (eq-eqb (length room) net.places f.0) (eq-eqb s.places net.places f.1)

  pub ask_allowed_of : ask_fault net m s (eqb (length room) net.places) ≡ Ok tt → AskAllowed net m s room
  unfolding ask_fault
  ask_allowed_of e =
      let a = or_sound (refuse (outside s.places) 1 0) _ e in
      let b = or_sound (marked_fault net m (eqb (length room) net.places && eqb s.places net.places)) (shape_fault s) a.1 in
      let f = marked_met net m (eqb (length room) net.places && eqb s.places net.places) b.0 in
      let g = fits_of f.fitting in
      record { sized = f.sized; light = f.light; marked = f.marked; roomy = g.0; counted = g.1; fine = f.fine; wired = f.wired; formed = formed_of_lem s b.1 }

  pub of_ask_allowed : AskAllowed net m s room → ask_fault net m s (eqb (length room) net.places) ≡ Ok tt
  unfolding ask_fault
  of_ask_allowed a =
      let c : outside s.places ≡ false = rw a.counted (inside_is net.places a.sized.some_places a.sized.few_places) in
      sound_or (refuse (outside s.places) 1 0) _ (sound_refuse (outside s.places) 1 0 c)
      (sound_or (marked_fault net m (eqb (length room) net.places && eqb s.places net.places)) (shape_fault s)
      (met_marked net m (eqb (length room) net.places && eqb s.places net.places) (record { sized = a.sized; light = a.light; marked = a.marked; fitting = of_fits (a.roomy, a.counted); fine = a.fine; wired = a.wired })) (of_formed s a.formed))

-- where nothing is refused, the answer and the room are those of the slots
module _ (net : Net) (m : List ℕ) (s : Summary) (room : List ℕ) (allowed : AskAllowed net m s room) (r : Answer Asked) (room' : List ℕ) (p : Replied net m s room r room') where
  pub slots_asked : SlotsAsked s.slots net.caps m room r room'
  slots_asked =
      let f = of_ask_allowed net m s room allowed in
      record { answer = rw f at (asked_apart r (ask_answer net m s room).answer p.answer); left = rw f at p.left }

-- the slots say yes exactly where the marking suffices
module _ (slots : List Slot) (caps m : List ℕ) where
  yes_suffices : says_yes slots caps m ≡ true → Suffices slots caps m
  yes_suffices e = suffices_of slots caps m (leb-true _ _ e)

  suffices_yes : Suffices slots caps m → says_yes slots caps m ≡ true
  suffices_yes k = le-leb (length m) (lowest_no slots caps m) (omega (arith, of_suffices slots caps m k))

  module _ (room : List ℕ) (r : Answer Asked) (room' : List ℕ) (j : SlotsAsked slots caps m room r room') where
    pub yes_means : r ≡ Ok Yes → Suffices slots caps m × (room' ≡ ends slots m)
    yes_means e = go (says_yes slots caps m) refl
      where
        go : (b : Bool) → says_yes slots caps m ≡ b → Suffices slots caps m × (room' ≡ ends slots m)
        go true q = (yes_suffices q, rw q at j.left)
        go false q = let n : r ≡ Ok No = rw q at j.answer in let z : ◌≡◌ {A = ℕ} 0 1 = cc in absurd (omega arith)

    pub means_yes : Suffices slots caps m → r ≡ Ok Yes
    means_yes k = rw (suffices_yes k) at j.answer

    pub no_means : r ≡ Ok No → (room' ≡ room) × (Suffices slots caps m → ⊥)
    no_means e = (go (says_yes slots caps m) refl, λ k. let y : r ≡ Ok Yes = means_yes k in let z : ◌≡◌ {A = ℕ} 0 1 = cc in omega arith)
      where
        go : (b : Bool) → says_yes slots caps m ≡ b → room' ≡ room
        go true q = let y : r ≡ Ok Yes = rw q at j.answer in let z : ◌≡◌ {A = ℕ} 0 1 = cc in absurd (omega arith)
        go false q = rw q at j.left

    pub never_refused : (n at : ℕ) → r ≡ refused n at → ⊥
    never_refused n at e = go (says_yes slots caps m) refl
      where
        go : (b : Bool) → says_yes slots caps m ≡ b → ⊥
        go true q = let y : r ≡ Ok Yes = rw q at j.answer in let z : ◌≡◌ {A = ℕ} 0 1 = cc in omega arith
        go false q = let y : r ≡ Ok No = rw q at j.answer in let z : ◌≡◌ {A = ℕ} 0 1 = cc in omega arith
