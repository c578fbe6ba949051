-- Where the unread rest is handed over to lie. Assumes nothing.
use Rattle.std.specs.Prelude.{Ok, Err}
use Rattle.refusals.specs.Given.{Answer as Asked, Fault}
use Rattle.refusals.specs.declared.Refusal.{Refusal}
use Prim.Native.Nat.{ℕ}
use mathlib.Core.Path.{◌≡◌, sym, ap, ◌∙◌}
use mathlib.Core.List.{List}
use lib.ListN.{get_or, take, drop}
use Rattle.orders.specs.Orders.{count}
use Rattle.net.specs.Net.{Net}
use Rattle.order.specs.Entry.{order_of, numbers, Ordered}
use Rattle.order.specs.declared.LogOrder.{LogOrder}
use Rattle.c_answer.specs.Hand.{handed}
use Rattle.c_answer.specs.declared.Answer.{Answer}
use Rattle.order_rest.specs.Rest.{rest_fault, Told}
use Rattle.order_rest.proofs.Exactly.{told_is, allowed_of}
use Rattle.order_rest.proofs.Steps.{step_one}
use Rattle.c_order.specs.Handed.{HandedOrder, handed_rest, handed_unread}
use Rattle.c_order.specs.declared.RestAnswer.{RestAnswer}

pub hand_order : (net : Net) (initial first second room work : List ℕ) (r : Answer) (a : Asked LogOrder) (room' work' : List ℕ)
    → r ≡ handed (numbers a) → Ordered net initial first second room work a room' work' → HandedOrder (order_of net initial first second room work) r room' work'
hand_order net initial first second room work r a room' work' e h = record { answer = e ∙ ap handed h.answer; left = h.left; cleared = h.cleared }

-- `found` is what `rest_fault` told
module _ (first second order : List ℕ) (step : ℕ) (found : Fault) (told : Told first second order step found) where
  is_found : (f : Fault) → found ≡ f → rest_fault first second order step ≡ f
  is_found f q = sym (told_is first second order step found told) ∙ q

  -- the answer to a refused question
  pub hand_refused : (e : Refusal) → found ≡ Err e → record { kind = 0x82; number = e.number; position = e.at; log = 0; start = 0; length = 0 } ≡ handed_unread first second order step
  unfolding handed_rest
  hand_refused e q = rw (is_found (Err e) q)

  -- where the step takes from the second log, n of its letters having been read
  pub hand_second : found ≡ Ok tt → (n : ℕ) (r : RestAnswer) → n ≡ count (get_or order step 0) (take step order) → (get_or order step 0 ≡ 0 → ⊥)
      → r ≡ handed_rest (Ok tt) 1 n (drop n second) → r ≡ handed_unread first second order step
  hand_second q n r e z h =
      let a = allowed_of first second order step (is_found (Ok tt) q) in
      let o : get_or order step 0 ≡ 1 = step_one step a.of_both a.inside z in
      h ∙ rw (is_found (Ok tt) q, ← e, o)
