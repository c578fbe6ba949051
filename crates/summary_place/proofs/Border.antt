-- A slot's signed change as the machine holds it. Assumes nothing.
use Prim.Native.Nat.{◌^◌, ◌≤◌, ◌<◌}
use mathlib.Core.Path.{◌≡◌, ap}
use native.Mathlib.Omega.{arith}
use lib.IntN.{ℤ, pos, negsuc}
use lib.Signed.{mag}
use mir.Syntax.{w32}
use mir.Val.{SFits, to_z, of_z}
use mir.Facts.{to_z-of_z}
use Rattle.ground.specs.Parts.{up, dn}
use Rattle.ground.proofs.Room.{slot_room}
use Rattle.summary_place.specs.Walk.{slot_limit, Well}
use Rattle.summary_place.specs.declared.Slot.{Slot}

pub change_fits : (s : Slot) → Well slot_limit s → SFits w32 s.change
change_fits s h = record { sfits = go s.change (omega (arith, slot_room)) (omega (arith, slot_room)) }
  where
    go : (z : ℤ) → up z < 2 ^ 31 → dn z ≤ 2 ^ 31 → mag z < 2 ^ 31
    go (pos n) p q = p
    go (negsuc n) p q = q

-- what is read back
pub up_read : (s : Slot) → SFits w32 s.change → up (to_z w32 (of_z w32 s.change)) ≡ up s.change
up_read s f = ap up (to_z-of_z {w = w32} f)

pub dn_read : (s : Slot) → SFits w32 s.change → dn (to_z w32 (of_z w32 s.change)) ≡ dn s.change
dn_read s f = ap dn (to_z-of_z {w = w32} f)
