-- A search from where it stands: what the code is asked for and what it promises, from what its two steps came to. Assumes nothing.
use Prim.Native.Nat.{ℕ, ◌+◌}
use mathlib.Core.Path.{◌≡◌, refl, sym, ◌∙◌, ap}
use mathlib.Core.Bool.{Bool, true, false}
use mathlib.Core.List.{List, [], ◌++◌, append-nil}
use native.Mathlib.Omega.{arith}
use lib.ListN.{length, take, set}
use Rattle.orders.specs.Orders.{Recorded}
use Rattle.orders.specs.Search.{Way, no_order, else_way}
use Rattle.order_find.specs.Walk.{Stands, Ends, Remembers, cell_of, way_from, way_by}
use Rattle.order_find.proofs.Ways.{way_end, way_more}
use Rattle.order_find.proofs.Marks.{remembers_more}
use Rattle.order_find.proofs.Steps.{ends_whole, ends_back}

module _ (logs : Recorded) (n k : ℕ) (m path work : List ℕ) (s : Stands logs n k m path work) where
  -- all is read: the empty order of the rest
  pub look_end : n + k ≡ length logs.first + length logs.second → Ends logs n k m path (way_from logs n k m) true m path work
  look_end e =
      let z : n + k + 0 ≡ n + k = omega arith in
      ends_whole logs n k m path (way_from logs n k m) true m path work refl
      (record {
        order = [];
        is = way_end logs n k m s.read_first s.read_second e;
        stands = ap (λ (j : ℕ). take j path) z ∙ sym (append-nil (take (n + k) path));
      })

  -- something is left, and a step from the first log came to this
  module _
      (more : n + k ≡ length logs.first + length logs.second → ⊥) (r₁ : Bool) (m₁ path₁ work₁ : List ℕ)
      (e₁ : Ends logs n k m path (way_by logs 0 n k m) r₁ m₁ path₁ work₁)
    where
      pub look_first : r₁ ≡ true → Ends logs n k m path (way_from logs n k m) true m₁ path₁ work₁
      look_first y =
          let v = e₁.whole y in
          ends_whole logs n k m path (way_from logs n k m) true m₁ path₁ work₁ refl
          (record {
            order = v.order;
            is = way_more logs n k m s.read_first s.read_second more ∙ ap (λ (x : Way). else_way x (way_by logs 1 n k m)) v.is;
            stands = v.stands;
          })

      module _ (y : r₁ ≡ false) where
        pub stands_again : length path₁ ≡ length path → length work₁ ≡ length work → Stands logs n k m₁ path₁ work₁
        stands_again lp lw =
            let b = e₁.back y in
            record {
              ready = s.ready;
              read_first = s.read_first;
              read_second = s.read_second;
              marked = ap length b.marking ∙ s.marked;
              small = rw b.marking s.small;
              roomy = rw lp s.roomy;
              bytes = lw ∙ s.bytes;
              remembers = rw b.marking b.remembers;
            }

        -- then one from the second log to this
        module _ (r₂ : Bool) (m₂ path₂ work₂ : List ℕ) (e₂ : Ends logs n k m₁ path₁ (way_by logs 1 n k m₁) r₂ m₂ path₂ work₂) where
          by_second : way_from logs n k m ≡ way_by logs 1 n k m₁
          by_second =
              way_more logs n k m s.read_first s.read_second more ∙ ap (λ (x : Way). else_way x (way_by logs 1 n k m)) (e₁.back y).is
              ∙ ap (way_by logs 1 n k) (sym (e₁.back y).marking)

          pub look_second : r₂ ≡ true → Ends logs n k m path (way_from logs n k m) true m₂ path₂ work₂
          look_second z =
              let v = e₂.whole z in
              ends_whole logs n k m path (way_from logs n k m) true m₂ path₂ work₂ refl
              (record {
                order = v.order;
                is = by_second ∙ v.is;
                stands = v.stands ∙ ap (λ (l : List ℕ). l ++ v.order) (e₁.back y).stands;
              })

          -- neither leads on: one more dead end
          pub look_none : r₂ ≡ false → (work₃ : List ℕ) → work₃ ≡ set work₂ (cell_of n k) 1 → Ends logs n k m path (way_from logs n k m) false m₂ path₂ work₃
          look_none z work₃ e₃ =
              let b = e₂.back z in
              let back : m₂ ≡ m = b.marking ∙ (e₁.back y).marking in
              let r : Remembers logs n k m work₂ = rw (← (e₁.back y).marking) b.remembers in
              let none : way_from logs n k m ≡ no_order = by_second ∙ b.is in
              ends_back logs n k m path (way_from logs n k m) false m₂ path₂ work₃ refl
              (record {
                is = none;
                marking = back;
                stands = b.stands ∙ (e₁.back y).stands;
                remembers = rw e₃ (remembers_more logs n k m work₂ r s.read_first s.read_second s.ready.few_first s.ready.few_second none);
              })
