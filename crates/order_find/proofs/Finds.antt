-- A whole search: from the initial marking to the order in the room. Assumes nothing.
use Prim.Native.Nat.{ℕ, ◌+◌}
use mathlib.Core.Path.{◌≡◌, sym, ◌∙◌, ap}
use mathlib.Core.Bool.{Bool, true, false}
use mathlib.Core.List.{List}
use native.Mathlib.Omega.{arith}
use lib.ListN.{length, take, replicate}
use Rattle.orders.specs.Orders.{Recorded}
use Rattle.orders.specs.Lengths.{work_length}
use Rattle.orders.specs.Search.{Way}
use Rattle.orders.proofs.Meaning.{way_long}
use Rattle.order_find.specs.Walk.{Ends, Begins, Sought, is_order, order_or, way_from}

pub ends_loaded :
    (logs : Recorded) (n k : ℕ) (m path : List ℕ) (r : Bool) (m' path' work' initial : List ℕ) → m ≡ initial
    → Ends logs n k m path (way_from logs n k m) r m' path' work' → Ends logs n k initial path (way_from logs n k initial) r m' path' work'
ends_loaded logs n k m path r m' path' work' initial e s = rw (← e) s

module _ (logs : Recorded) (initial room work : List ℕ) (b : Begins logs initial room work) where
  module _
      (path : List ℕ) (r : Bool) (m₂ path₂ work₂ : List ℕ) (e : Ends logs 0 0 initial path (way_from logs 0 0 initial) r m₂ path₂ work₂)
      (work₃ : List ℕ) (z : work₃ ≡ replicate (length work₂) 0) (l : length work₂ ≡ length work)
    where
      all_zero_lem : work₃ ≡ replicate work_length 0
      all_zero_lem = z ∙ ap (λ (j : ℕ). replicate j 0) (l ∙ b.bytes)

      -- an order was found, and was copied
      pub sought_found : (room' : List ℕ) → r ≡ true → room' ≡ take (length room) path₂ → Sought logs initial room r room' work₃
      sought_found room' y c =
          let w = e.whole y in
          let long : length room ≡ 0 + 0 + length w.order = omega (arith, (way_long logs initial b.marked w.is).0, b.roomy) in
          record {
            answer = y ∙ sym (ap is_order w.is);
            left = c ∙ ap (λ (j : ℕ). take j path₂) long ∙ w.stands ∙ sym (ap (λ (x : Way). order_or x room) w.is);
            zero = all_zero_lem;
          }

      -- there is none
      pub sought_none : r ≡ false → Sought logs initial room r room work₃
      sought_none y =
          let w = e.back y in
          record { answer = y ∙ sym (ap is_order w.is); left = sym (ap (λ (x : Way). order_or x room) w.is); zero = all_zero_lem }
