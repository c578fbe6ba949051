-- What C is handed: ordering has one answer and one content of room and work space; nothing of an answer is lost on the way; the unread rest lies where it is said to. Assumes nothing.
use Rattle.std.specs.Prelude.{Result, Ok, Err}
use Rattle.refusals.specs.Given.{Fault, refusal, refused}
use Rattle.refusals.specs.declared.Refusal.{Refusal}
use Prim.Native.Nat.{ℕ, ◌+◌, ◌≤◌}
use mathlib.Core.Path.{◌≡◌, refl, sym, ap, ◌∙◌}
use mathlib.Core.Bool.{cond}
use mathlib.Core.List.{List}
use mathlib.Core.Logic.{◌↔◌}
use native.Mathlib.Omega.{arith}
use lib.ListN.{length, drop, length-drop}
use lib.Dec.{eqb}
use Rattle.order.specs.Entry.{Answered, numbers}
use Rattle.order.specs.declared.LogOrder.{LogOrder}
use Rattle.order.specs.declared.LogOrder.TheVariants as order
use Rattle.order_rest.specs.Rest as rest
use Rattle.order_rest.specs.Rest.{rest_fault, which_at, log_of, rest_of}
use Rattle.order_rest.proofs.Exactly.{allowed_of}
use Rattle.order_rest.proofs.Steps.{letter_left}
use Rattle.c_answer.specs.Hand.{handed}
use Rattle.c_answer.specs.declared.Answer.{Answer}
use Rattle.c_order.specs.Handed.{HandedOrder, handed_rest, handed_unread}
use Rattle.c_order.specs.declared.RestAnswer.{RestAnswer}

pub unique_order : (x : Answered) (r r' : Answer) (m m' w w' : List ℕ) → HandedOrder x r m w → HandedOrder x r' m' w' → (r ≡ r') × ((m ≡ m') × (w ≡ w'))
unique_order x r r' m m' w w' a b = (a.answer ∙ sym b.answer, (a.left ∙ sym b.left, a.cleared ∙ sym b.cleared))

abbrev pub order_of : Answer → Result LogOrder Refusal
order_of r = cond (eqb r.kind 0x82) (refused r.number r.position) (cond (eqb r.number 0) (Ok order.Found) (Ok order.NoneFires))

pub order_whole : (a : Result LogOrder Refusal) → order_of (handed (numbers a)) ≡ a
unfolding handed
order_whole (Ok order.Found) = refl
order_whole (Ok order.NoneFires) = refl
order_whole (Err r) = refl

abbrev pub fault_of : Answer → Fault
fault_of r = cond (eqb r.kind 0x82) (Err (refusal r.number r.position)) (Ok tt)

pub fault_whole : (a : Fault) → fault_of (handed (rest.numbers a)) ≡ a
unfolding handed
fault_whole (Ok _) = refl
fault_whole (Err r) = refl

-- the answer says where the unread rest lies: in the log that the step takes from, up to that log's end, with at least the step's own letter
pub record Lies (first second order : List ℕ) (step : ℕ) (r : RestAnswer) : Type 0 where
  pub which : r.log ≡ which_at order step
  pub there : drop r.start (log_of r.log first second) ≡ rest_of first second order step
  pub end : r.start + r.length ≡ length (log_of r.log first second)
  pub some : 1 ≤ r.length

module _ (first second order : List ℕ) (step : ℕ) (r : RestAnswer) (promise : r ≡ handed_unread first second order step) where
  -- an answer is given exactly where nothing is refused
  pub rest_sound : (r.kind ≡ 0x81) ↔ (rest_fault first second order step ≡ Ok tt)
  unfolding handed_rest
  rest_sound = (λ e. go e (rest_fault first second order step) refl, λ q. ap (λ (x : RestAnswer). x.kind) promise ∙ rw q)
    where
      go : r.kind ≡ 0x81 → (f : Fault) → rest_fault first second order step ≡ f → rest_fault first second order step ≡ Ok tt
      go e (Ok _) q = q
      go e (Err w) q = let z : r.kind ≡ 0x82 = ap (λ (x : RestAnswer). x.kind) promise ∙ rw q in absurd (omega arith)

  pub rest_lies : r.kind ≡ 0x81 → Lies first second order step r
  unfolding handed_rest
  rest_lies e =
      let q = rest_sound.0 e in
      let a = allowed_of first second order step q in
      let l = letter_left step a.of_both a.inside in
      rw promise
      (rw q
      (record {
        which = refl;
        there = rw q;
        end = omega (arith, l, length-drop (rest.read_at order step) (log_of (which_at order step) first second));
        some = omega (arith, l, length-drop (rest.read_at order step) (log_of (which_at order step) first second));
      }))

  -- a refusal is the one that `rest_fault` tells, and says nothing of a part
  pub rest_refused : (n at : ℕ) → (r ≡ record { kind = 0x82; number = n; position = at; log = 0; start = 0; length = 0 }) ↔ (rest_fault first second order step ≡ Err (refusal n at))
  unfolding handed_rest
  rest_refused n at = (λ e. go e (rest_fault first second order step) refl, λ q. promise ∙ rw q)
    where
      go : r ≡ record { kind = 0x82; number = n; position = at; log = 0; start = 0; length = 0 } → (f : Fault) → rest_fault first second order step ≡ f → rest_fault first second order step ≡ Err (refusal n at)
      go e (Ok _) q =
          let z : r.kind ≡ 0x81 = ap (λ (x : RestAnswer). x.kind) promise ∙ rw q in
          let y : r.kind ≡ 0x82 = ap (λ (x : RestAnswer). x.kind) e in
          absurd (omega arith)
      go e (Err z) q =
          let h : r ≡ record { kind = 0x82; number = z.number; position = z.at; log = 0; start = 0; length = 0 } = promise ∙ rw q in
          let s = sym h ∙ e in
          let x : z.number ≡ n = ap (λ (x : RestAnswer). x.number) s in
          let y : z.at ≡ at = ap (λ (x : RestAnswer). x.position) s in
          q ∙ rw (x, y)
