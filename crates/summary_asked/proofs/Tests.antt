-- Laws of slots asked against a marking: what no place's no says. Assumes nothing.
use Rattle.std.specs.Prelude.{Option, Some, None}
use Rattle.std.specs.Option.{is_some}
use Rattle.ground.specs.Lists.{found}
use Prim.Native.Nat.{ℕ, ◌+◌, ◌≤◌}
use mathlib.Core.Path.{◌≡◌, refl}
use mathlib.Core.Bool.{Bool, true, false, ◌&&◌}
use mathlib.Core.List.{List}
use native.Mathlib.Omega.{arith}
use lib.ListN.{length, get_or}
use lib.Dec.{ltb}
use borrow.Author.Tests.{lt-ltb, le-ltb, ltb-true, ltb-false}
use Rattle.ground.specs.Limits.{no_capacity}
use Rattle.ground.proofs.Tests.{never, or-false, both_false}
use Rattle.ground.proofs.Scan.{first_below, first_none, found_none}
use Rattle.summary_place.specs.Slots.{nil}
use Rattle.summary_asked.specs.Asked.{no_at, lowest_no, SufficesAt, Suffices}
use Rattle.summary_asked.specs.Walk.{NeedsMet}
use Rattle.summary_place.specs.declared.Slot.{Slot}

-- a place does not say no exactly where its tokens suffice
pub yes_at : (need climb cap tokens : ℕ) → no_at need climb cap tokens ≡ false → SufficesAt need climb cap tokens
yes_at need climb cap tokens e =
    let a = or-false (ltb tokens need) _ e in
    record { covers = ltb-false tokens need a.0; keeps = λ h. ltb-false cap (tokens + climb) (rw (lt-ltb cap no_capacity h) at a.1) }

pub at_yes : (need climb cap tokens : ℕ) → SufficesAt need climb cap tokens → no_at need climb cap tokens ≡ false
at_yes need climb cap tokens s = both_false _ _ (le-ltb tokens need s.covers) (go (ltb cap no_capacity) refl)
  where
    go : (b : Bool) → ltb cap no_capacity ≡ b → (b && ltb cap (tokens + climb)) ≡ false
    go true q = le-ltb cap (tokens + climb) (s.keeps (ltb-true cap no_capacity q))
    go false q = refl

-- no place says no exactly where the marking suffices
pub suffices_of : (slots : List Slot) (caps m : List ℕ) → length m ≤ lowest_no slots caps m → Suffices slots caps m
suffices_of slots caps m h =
    record { at = λ p l. yes_at (get_or slots p nil).need (get_or slots p nil).climb (get_or caps p 0) (get_or m p 0) (first_below (λ p. no_at (get_or slots p nil).need (get_or slots p nil).climb (get_or caps p 0) (get_or m p 0)) (length m) p (omega arith)) }

pub of_suffices : (slots : List Slot) (caps m : List ℕ) → Suffices slots caps m → lowest_no slots caps m ≡ length m
of_suffices slots caps m s =
    first_none (λ p. no_at (get_or slots p nil).need (get_or slots p nil).climb (get_or caps p 0) (get_or m p 0)) (length m)
    (λ p h. at_yes (get_or slots p nil).need (get_or slots p nil).climb (get_or caps p 0) (get_or m p 0) (s.at p h))

-- so it has what the slots need where no place was found that says no
pub needs_met : (slots : List Slot) (caps m : List ℕ) (o : Option ℕ) → o ≡ found (length m) (lowest_no slots caps m) → is_some o ≡ false → NeedsMet slots m
needs_met slots caps m None e h = let s = suffices_of slots caps m (found_none _ _ e) in record { at = λ p l. (s.at p l).covers }
needs_met slots caps m (Some k) e h = never h
