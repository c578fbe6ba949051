-- Laws of refusal 6. Assumes nothing.
use Rattle.std.specs.Prelude.{Ok}
use Prim.Native.Nat.{ℕ, ◌*◌, ◌≤◌, ◌<◌}
use mathlib.Core.Path.{◌≡◌}
use mathlib.Core.Bool.{cond}
use native.Mathlib.Nat.{mul-le-mul_left}
use native.Mathlib.Omega.{arith}
use lib.ListN.{get_or}
use lib.Dec.{ltb}
use borrow.Author.Tests.{le-ltb, ltb-false}
use Rattle.ground.specs.Limits.{count_limit, weight_limit, word_limit}
use Rattle.refusals.specs.Given.{refuse}
use Rattle.refusals.proofs.Chains.{or_sound, sound_or, refuse_sound, sound_refuse}
use Rattle.summary_place.specs.Slots.{nil}
use Rattle.summary_place.specs.Walk.{slot_limit, Well, Wells}
use Rattle.summary_slots.proofs.Tests.{of_wells, wells}
use Rattle.summary_form.specs.Summary.{bad_of, shape_fault}
use Rattle.summary_form.specs.declared.Summary.{Summary}

module _ (s : Summary) where
  -- nothing is refused exactly where the length and every slot are well formed
  pub shape_sound : shape_fault s ≡ Ok tt → (s.letters ≤ word_limit) × (count_limit ≤ bad_of s)
  unfolding shape_fault
  shape_sound e =
      let a = or_sound (refuse (ltb word_limit s.letters) 6 0) (refuse (ltb (bad_of s) count_limit) 6 (bad_of s)) e in
      (ltb-false _ _ (refuse_sound _ 6 0 a.0), ltb-false _ _ (refuse_sound _ 6 (bad_of s) a.1))

  pub sound_shape : s.letters ≤ word_limit → ((p : ℕ) → p < count_limit → Well (cond (ltb p s.places) (weight_limit * s.letters) 0) (get_or s.slots p nil)) → shape_fault s ≡ Ok tt
  unfolding shape_fault
  sound_shape h w =
      let e = of_wells s.places (weight_limit * s.letters) s.slots w in
      sound_or _ _ (sound_refuse _ 6 0 (le-ltb word_limit s.letters h)) (sound_refuse _ 6 (bad_of s) (le-ltb (bad_of s) count_limit (omega arith)))

  pub shape_wells : shape_fault s ≡ Ok tt → Wells slot_limit s.slots
  shape_wells e =
      let a = shape_sound e in
      wells s.places (weight_limit * s.letters) s.slots slot_limit (mul-le-mul_left weight_limit a.0) a.1
