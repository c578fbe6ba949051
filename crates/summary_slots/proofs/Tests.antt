-- Laws of the tests on slots: what a slot that is not bad has. Assumes nothing.
use Prim.Native.Nat.{ℕ, ◌≤◌, ◌<◌, zero-le}
use mathlib.Core.Path.{◌≡◌}
use mathlib.Core.Bool.{Bool, true, false, cond}
use mathlib.Core.List.{List}
use native.Mathlib.Omega.{arith}
use lib.ListN.{get_or}
use lib.Dec.{ltb}
use borrow.Author.Tests.{le-ltb, ltb-false}
use Rattle.ground.specs.Limits.{count_limit}
use Rattle.ground.specs.Parts.{up, dn}
use Rattle.ground.proofs.Tests.{or-false, both_false}
use Rattle.ground.proofs.Scan.{first_below, first_none}
use Rattle.summary_place.specs.Slots.{nil, slot_bad, bad_at, bad_slot}
use Rattle.summary_place.specs.Walk.{Well, Wells}
use Rattle.summary_place.specs.declared.Slot.{Slot}

pub not_bad : (cap : ℕ) (s : Slot) → slot_bad cap s ≡ false → Well cap s
unfolding slot_bad
not_bad cap s e =
    let a = or-false (ltb cap s.need) _ e in
    let b = or-false (ltb cap s.climb) _ a.1 in
    let c = or-false (ltb s.need (dn s.change)) _ b.1 in
    record { need = ltb-false _ _ a.0; climb = ltb-false _ _ b.0; down = ltb-false _ _ c.0; top = ltb-false _ _ c.1 }

pub well_not : (cap : ℕ) (s : Slot) → Well cap s → slot_bad cap s ≡ false
unfolding slot_bad
well_not cap s w =
    both_false _ _ (le-ltb cap s.need w.need)
    (both_false _ _ (le-ltb cap s.climb w.climb)
    (both_false _ _ (le-ltb s.need (dn s.change) w.down) (le-ltb s.climb (up s.change) w.top)))

-- all slots of a summary are well formed, each by its own bound
pub cap_low : (places cap p : ℕ) → cond (ltb p places) cap 0 ≤ cap
cap_low places cap p = go (ltb p places)
  where
    go : (b : Bool) → cond b cap 0 ≤ cap
    go true = omega arith
    go false = zero-le

pub nil_well : (cap : ℕ) → Well cap nil
nil_well cap = record { need = zero-le; climb = zero-le; down = zero-le; top = zero-le }

pub well_more : (cap cap' : ℕ) (s : Slot) → cap ≤ cap' → Well cap s → Well cap' s
well_more cap cap' s h w = record { need = omega arith; climb = omega arith; down = w.down; top = w.top }

module _ (places cap : ℕ) (slots : List Slot) where
  pub wells_of : count_limit ≤ bad_slot places cap slots → (p : ℕ) → p < count_limit → Well (cond (ltb p places) cap 0) (get_or slots p nil)
  wells_of h p l = not_bad _ _ (first_below (λ p. bad_at places cap p (get_or slots p nil)) count_limit p (omega arith))

  pub of_wells : ((p : ℕ) → p < count_limit → Well (cond (ltb p places) cap 0) (get_or slots p nil)) → bad_slot places cap slots ≡ count_limit
  of_wells w = first_none (λ p. bad_at places cap p (get_or slots p nil)) count_limit (λ p h. well_not _ _ (w p h))

  pub wells : (limit : ℕ) → cap ≤ limit → count_limit ≤ bad_slot places cap slots → Wells limit slots
  wells limit h b = record { at = λ p l. well_more _ limit _ (omega (arith, cap_low places cap p)) (wells_of b p l) }
