-- What the two questions mean: the promise fixes the answer and the part; what is refused, and when; the part is the unread rest of the step's log, and begins with the letter that the step takes. Assumes nothing.
use Rattle.std.specs.Prelude.{Ok, Err}
use Rattle.refusals.specs.Given.{Fault, refused}
use Prim.Native.Nat.{ℕ, zero, suc, ◌≤◌}
use mathlib.Core.Path.{◌≡◌, refl, sym, ap, ◌∙◌}
use mathlib.Core.List.{List, []}
use mathlib.Core.Logic.{◌↔◌, ◌⊎◌, inl, inr}
use native.Mathlib.Nat.{add-zero}
use native.Mathlib.Omega.{arith}
use lib.ListN.{length, get_or, length-drop}
use lib.Seq.{get_or-drop}
use Rattle.refusals.proofs.Chains.{not_sound}
use Rattle.refusals.proofs.Exactly.{Answers, exactly_refused, is_answered, is_allowed}
use Rattle.orders.specs.Orders.{woven}
use Rattle.order_rest.specs.Rest.{which_at, log_of, read_at, unread, rest_fault, rest_unless, rest_of, RestFrom, Told, Allowed, Refusal}
use Rattle.order_rest.proofs.Steps.{letter_left, step_one, woven_at}
use Rattle.order_rest.proofs.Exactly.{numbers_apart, told_is, allowed_of, of_allowed, rest_chain}

module _ (first second order : List ℕ) (step : ℕ) where
  -- each promise has one answer
  pub unique : (r r' : Fault) → Told first second order step r → Told first second order step r' → r ≡ r'
  unique r r' a b = numbers_apart r r' (a.answer ∙ sym b.answer)

  -- and one part: the same letters, in the same order
  pub rest_unique : (part part' : List ℕ) → part ≡ rest_of first second order step → part' ≡ rest_of first second order step → part ≡ part'
  rest_unique part part' a b = a ∙ sym b

-- ---- what is refused
module _ (first second order : List ℕ) (step : ℕ) (r : Fault) (promise : Told first second order step r) where
  answers : Answers (rest_fault first second order step) r
  answers =
      record {
        given = λ n at f. told_is first second order step r promise ∙ f;
        never = λ f n at e. not_sound n at (sym e ∙ told_is first second order step r promise ∙ f);
      }

  -- a refusal has the number and position of the first demand that does not hold, and is given exactly then
  pub refused_exactly : (n at : ℕ) → (r ≡ refused n at) ↔ Refusal first second order step n at
  refused_exactly = exactly_refused answers (rest_chain first second order step)

  pub allowed_answered : Allowed first second order step → (n at : ℕ) → r ≡ refused n at → ⊥
  allowed_answered = is_answered answers (of_allowed first second order step)

  pub answered_allowed : ((n at : ℕ) → r ≡ refused n at → ⊥) → Allowed first second order step
  answered_allowed = is_allowed answers (allowed_of first second order step)

  -- nothing is refused exactly where all that is asked holds
  pub sound_exactly : (r ≡ Ok tt) ↔ Allowed first second order step
  sound_exactly = (
    λ e. allowed_of first second order step (sym (told_is first second order step r promise) ∙ e),
    λ a. told_is first second order step r promise ∙ of_allowed first second order step a,
  )

-- ---- the part, where nothing is refused
module _ (first second order : List ℕ) (step : ℕ) (part : List ℕ) (promise : part ≡ rest_of first second order step) where
  module _ (nothing : Told first second order step (Ok tt)) where
    allowed : Allowed first second order step
    allowed = (sound_exactly first second order step (Ok tt) nothing).0 refl

    -- the unread rest of the log that the step takes from
    rest-is : part ≡ unread first second order step
    rest-is = promise ∙ ap (λ (f : Fault). rest_unless f (unread first second order step)) (of_allowed first second order step allowed)

    -- "An unread rest is never empty": the step's own letter is in it
    pub rest_some : 1 ≤ length part
    rest_some =
        let h = letter_left step allowed.of_both allowed.inside in
        let l = length-drop (read_at order step) (log_of (which_at order step) first second) in
        rw rest-is (omega arith)

    -- "of whichever log that step takes from": the first where the step is 0, the second where it is 1, and it is one of the two
    pub rest_which : RestFrom 0 first order step part ⊎ RestFrom 1 second order step part
    rest_which = go (get_or order step 0) refl
      where
        go : (w : ℕ) → get_or order step 0 ≡ w → RestFrom 0 first order step part ⊎ RestFrom 1 second order step part
        go zero e = inl (record { takes = e; on = rw e at rest-is })
        go (suc w) e =
            let q = step_one step allowed.of_both allowed.inside (λ z. let k : suc w ≡ 0 = sym e ∙ z in omega arith) in
            inr (record { takes = q; on = rw q at rest-is })

    -- it begins with the letter that the step takes, number `step` of the word that the order makes; d is what is read past an end, where neither is
    pub rest_head : (d : ℕ) → get_or (woven order first second) step d ≡ get_or part 0 d
    rest_head d =
        woven_at order first second step d allowed.of_both allowed.inside
        ∙ ap (λ (k : ℕ). get_or (log_of (which_at order step) first second) k d) (sym (add-zero (read_at order step)))
        ∙ sym (get_or-drop (read_at order step) (log_of (which_at order step) first second) 0 d)
        ∙ ap (λ (l : List ℕ). get_or l 0 d) (sym rest-is)

  -- "refused, the part is empty", and only then; r is what "a call beside tells"
  module _ (r : Fault) (told : Told first second order step r) where
    empty_of : (n at : ℕ) → r ≡ refused n at → part ≡ []
    empty_of n at e = promise ∙ ap (λ (f : Fault). rest_unless f (unread first second order step)) (sym (told_is first second order step r told) ∙ e)

    pub refused_empty : (part ≡ []) ↔ (r ≡ Ok tt → ⊥)
    refused_empty = (there, back r refl)
      where
        there : part ≡ [] → r ≡ Ok tt → ⊥
        there e q = let h = rest_some (rw q at told) in let l = ap length e in omega arith

        back : (x : Fault) → r ≡ x → (r ≡ Ok tt → ⊥) → part ≡ []
        back (Ok _) q miss = absurd (miss q)
        back (Err r) q miss = empty_of r.number r.at q
