-- What is refused nothing of has a letter left: the part that is handed over lies in its log. Assumes nothing.
use Rattle.std.specs.Prelude.{Ok}
use Rattle.refusals.specs.Given.{Fault}
use Prim.Native.Nat.{ℕ, zero, suc, ◌≤◌, ◌<◌}
use mathlib.Core.Path.{◌≡◌, refl, sym, ◌∙◌}
use mathlib.Core.List.{List}
use native.Mathlib.Omega.{arith}
use lib.ListN.{length, get_or, take}
use Rattle.orders.specs.Orders.{count}
use Rattle.order_rest.specs.Rest.{which_at, log_of, rest_fault, Told, Allowed}
use Rattle.order_rest.proofs.Steps.{letter_left}
use Rattle.order_rest.proofs.Exactly.{told_is, allowed_of}

log_second : (w : ℕ) (first second : List ℕ) → (w ≡ 0 → ⊥) → log_of w first second ≡ second
log_second zero first second miss = absurd (miss refl)
log_second (suc w) first second miss = refl

-- `found` is what `rest_fault` told
module _ (first second order : List ℕ) (step : ℕ) (found : Fault) (told : Told first second order step found) where
  module _ (q : found ≡ Ok tt) where
    fault_none : rest_fault first second order step ≡ Ok tt
    fault_none = sym (told_is first second order step found told) ∙ q

    part_allowed : Allowed first second order step
    part_allowed = allowed_of first second order step fault_none

    pub step_inside : step < length order
    step_inside = part_allowed.inside

    -- n is the number of letters read
    module _ (n : ℕ) (e : n ≡ count (get_or order step 0) (take step order)) where
      left : n < length (log_of (which_at order step) first second)
      left = rw e (letter_left step part_allowed.of_both step_inside)

      pub first_left : get_or order step 0 ≡ 0 → n ≤ length first
      first_left z = let h : n < length first = rw z at left in omega arith

      pub second_left : (get_or order step 0 ≡ 0 → ⊥) → n ≤ length second
      second_left z = let h : n < length second = rw (log_second (get_or order step 0) first second z) at left in omega arith
