-- The numbers tell any two answers apart; nothing is refused exactly where all that is asked holds; each refusal is the one of the first demand that does not hold. Assumes nothing.
use Rattle.std.specs.Prelude.{Ok, Err}
use Rattle.refusals.specs.Given.{Fault, refusal}
use Prim.Native.Nat.{ℕ}
use mathlib.Core.Path.{◌≡◌, refl, sym, ap, ◌∙◌}
use mathlib.Core.Bool.{not}
use mathlib.Core.List.{List, [], ◌∷◌}
use lib.ListN.{length}
use borrow.Author.Tests.{not-false}
use Rattle.refusals.specs.Given.{refuse, or_else}
use Rattle.refusals.proofs.Chains.{or_sound, sound_or, refuse_sound, sound_refuse}
use Rattle.refusals.proofs.Exactly.{Chain, tells_test, reads_test, reads_both, reads_all}
use Rattle.orders.specs.Lengths.{long_fault}
use Rattle.orders.proofs.Lengths.{long_met, met_long, long_reads}
use Rattle.order_rest.specs.Rest.{fits, rest_fault, numbers, Told, Allowed, Refusal}
use Rattle.order_rest.proofs.Fits.{order_of_lem, of_order}

-- an answer can be read back from its numbers
abbrev back : List ℕ → Fault
back (k ∷ n ∷ at ∷ l) = Err (refusal n at)
back (k ∷ n ∷ []) = Ok tt
back (k ∷ []) = Ok tt
back [] = Ok tt

back_is : (a : Fault) → back (numbers a) ≡ a
back_is (Ok _) = refl
back_is (Err r) = refl

pub numbers_apart : (a b : Fault) → numbers a ≡ numbers b → a ≡ b
numbers_apart a b e = sym (back_is a) ∙ ap back e ∙ back_is b

module _ (first second order : List ℕ) (step : ℕ) where
  pub told_is : (r : Fault) → Told first second order step r → r ≡ rest_fault first second order step
  told_is r told = numbers_apart r (rest_fault first second order step) told.answer

  pub is_told : (r : Fault) → r ≡ rest_fault first second order step → Told first second order step r
  is_told r e = record { answer = ap numbers e }

  -- so it is where the code comes to: the fault of the lengths, else that of the order
  pub told_of : (r : Fault) → r ≡ or_else (long_fault (length first) (length second)) (refuse (not (fits (length first) (length second) order step)) 16 0) → Told first second order step r
  unfolding rest_fault
  told_of r e = is_told r e

  pub allowed_of : rest_fault first second order step ≡ Ok tt → Allowed first second order step
  unfolding rest_fault
  allowed_of e =
      let a = or_sound (long_fault (length first) (length second)) (refuse (not (fits (length first) (length second) order step)) 16 0) e in
      let l = long_met (length first) (length second) a.0 in
      let o = order_of_lem first second order step (not-false _ (refuse_sound _ 16 0 a.1)) in
      record { short_first = l.0; short_second = l.1; of_both = o.0; inside = o.1 }

  pub of_allowed : Allowed first second order step → rest_fault first second order step ≡ Ok tt
  unfolding rest_fault
  of_allowed a =
      sound_or _ _ (met_long (length first) (length second) a.short_first a.short_second)
      (sound_refuse _ 16 0 (ap not (of_order first second order step (a.of_both, a.inside))))

  pub rest_chain : Chain (rest_fault first second order step) (Refusal first second order step)
  unfolding rest_fault
  rest_chain =
      reads_all
      (reads_both (long_reads first second)
      (reads_test (tells_test _ 16 0 (λ e. order_of_lem first second order step (not-false _ e)) (λ o. ap not (of_order first second order step o)))))
