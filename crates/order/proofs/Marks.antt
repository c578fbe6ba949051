-- Marks that are alike change no answer about two logs (document 02, E5; `uncapped_plain` and `marks_alike` of crate net say which are). Assumes nothing.
use Prim.Native.Nat.{ℕ, zero, suc, ◌+◌}
use mathlib.Core.Path.{◌≡◌, refl, sym, ap, ◌∙◌}
use mathlib.Core.Bool.{Bool, cond, ◌&&◌}
use mathlib.Core.List.{List}
use lib.Dec.{ltb}
use Rattle.net.specs.Net.{Net}
use Rattle.net.specs.Letter.{arcs_at, passes, fired_at}
use Rattle.net.specs.Marks.{remarked, MarksAlike}
use Rattle.net.proofs.Pockets.{alike_passes}
use Rattle.refusals.specs.Given.{Answer}
use Rattle.refusals.proofs.Marks.{remarked_marked}
use Rattle.orders.specs.Orders.{Recorded, logs_of}
use Rattle.orders.specs.Search.{Way, no_order, letter_at, onto, else_way, step, order_from, left_of}
use Rattle.order.specs.Entry.{order_fault, rooms_fit, Answered, answered, order_of, numbers, Ordered}
use Rattle.order.specs.declared.LogOrder.{LogOrder}
use Rattle.order.proofs.Exactly.{unique}

module _ (net : Net) (marks : List ℕ) (alike : MarksAlike net.caps net.marks marks) (first second : List ℕ) where
  -- what was recorded, and the same of the net with the other marks
  abbrev ours : Recorded
  ours = logs_of net first second

  abbrev other : Recorded
  other = logs_of (remarked net marks) first second

  same_step : (which n k : ℕ) (m : List ℕ) (f g : List ℕ → Way) → ((m' : List ℕ) → f m' ≡ g m') → step ours which n k m f ≡ step other which n k m g
  same_step which n k m f g h =
      ap (λ (b : Bool). cond (ltb (letter_at ours which n k) net.transitions && b) (onto which (f (fired_at net (letter_at ours which n k) m))) no_order) (alike_passes net marks alike (letter_at ours which n k) m)
      ∙ ap (λ (w : Way). cond (ltb (letter_at ours which n k) net.transitions && passes (arcs_at (remarked net marks) (letter_at ours which n k)) m) (onto which w) no_order) (h (fired_at net (letter_at ours which n k) m))

  same_way : (left n k : ℕ) (m : List ℕ) → order_from ours left n k m ≡ order_from other left n k m
  unfolding order_from
  same_way zero n k m = refl
  same_way (suc left) n k m =
      ap (λ (w : Way). else_way w (step ours 1 n k m (λ m'. order_from ours left n (k + 1) m')))
      (same_step 0 n k m (λ m'. order_from ours left (n + 1) k m') (λ m'. order_from other left (n + 1) k m') (λ m'. same_way left (n + 1) k m'))
      ∙ ap (λ (w : Way). else_way (step other 0 n k m (λ m'. order_from other left (n + 1) k m')) w)
      (same_step 1 n k m (λ m'. order_from ours left n (k + 1) m') (λ m'. order_from other left n (k + 1) m') (λ m'. same_way left n (k + 1) m'))

  same_fault : (initial : List ℕ) (fits : Bool) → order_fault net initial first second fits ≡ order_fault (remarked net marks) initial first second fits
  unfolding order_fault
  same_fault initial fits = rw (remarked_marked net marks alike.long initial fits)

  same_order : (initial room work : List ℕ) → order_of net initial first second room work ≡ order_of (remarked net marks) initial first second room work
  same_order initial room work =
      ap (λ (way : Way). answered (order_fault net initial first second (rooms_fit first second room work)) way room work) (same_way (left_of ours 0 0) 0 0 initial)
      ∙ rw (same_fault initial (rooms_fit first second room work))

  -- two questions that differ in the marks only have one answer, and one content of the room and of the work space
  pub order_alike : (initial room work : List ℕ) (r r' : Answer LogOrder) (m m' w w' : List ℕ) → Ordered net initial first second room work r m w → Ordered (remarked net marks) initial first second room work r' m' w' → (r ≡ r') × ((m ≡ m') × (w ≡ w'))
  order_alike initial room work r r' m m' w w' a b =
      let e = sym (same_order initial room work) in
      unique net initial first second room work r r' m m' w w' a
      (record {
        answer = b.answer ∙ ap (λ (x : Answered). numbers x.answer) e;
        left = b.left ∙ ap (λ (x : Answered). x.left) e;
        cleared = b.cleared ∙ ap (λ (x : Answered). x.work) e;
      })
