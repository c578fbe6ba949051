-- One step of a search: what the code is asked for and what it promises, from where it stands. Assumes nothing.
use Prim.Native.Nat.{ℕ, suc, ◌+◌, ◌-◌, ◌*◌, ◌≤◌, ◌<◌}
use mathlib.Core.Path.{◌≡◌, refl, sym, ◌∙◌, ap}
use mathlib.Core.Bool.{Bool, true, false}
use mathlib.Core.List.{List, [], ◌∷◌, ◌++◌}
use native.Mathlib.Omega.{arith}
use native.Mathlib.Numerals.{add-one}
use lib.ListN.{length, take, set, length-set}
use lib.Seq.{take-suc-set, append_snoc, take-take, take-set-le}
use Rattle.ground.specs.Limits.{weight_limit, tokens_after, replay_limit}
use Rattle.ground.proofs.Tests.{never}
use Rattle.net.specs.Letter.{arcs_at, passes, fired_at, row, Small, Enough}
use Rattle.net.proofs.Rows.{pre_end, post_end}
use Rattle.orders.specs.Orders.{Recorded}
use Rattle.orders.specs.Search.{Way, letter_at, open_to, onto}
use Rattle.order_find.specs.Walk.{Alike, Stands, Ends, Whole, Back, taken_back, way_from, way_by}
use Rattle.order_find.proofs.Ways.{Onward, onward, by_closed, by_open}
use Rattle.order_find.proofs.Firing.{fired_long, fired_small, put_there, back_again}
use Rattle.order_find.proofs.Marks.{alike_step, remembers_along, remembers_back}

-- the two ways in which a search ends
module _ (logs : Recorded) (n k : ℕ) (m path : List ℕ) (found : Way) (r : Bool) (m' path' work' : List ℕ) where
  pub ends_whole : r ≡ true → Whole (n + k) path found path' → Ends logs n k m path found r m' path' work'
  ends_whole e w = record { whole = λ h. w; back = λ h. never (sym e ∙ h) }

  pub ends_back : r ≡ false → Back logs n k m path found m' path' work' → Ends logs n k m path found r m' path' work'
  ends_back e b = record { whole = λ h. never (sym h ∙ e); back = λ h. b }

-- a path with one more step
path_more : (path : List ℕ) (at x : ℕ) → at < length path → take (at + 1) (set path at x) ≡ take at path ++ (x ∷ [])
path_more path at x h = ap (λ (j : ℕ). take j (set path at x)) (add-one at) ∙ take-suc-set path at x h

path_longer :
    (path path₂ order : List ℕ) (at at₁ x : ℕ) → at < length path → at₁ ≡ at + 1 → take (at₁ + length order) path₂ ≡ take at₁ (set path at x) ++ order
    → take (at + suc (length order)) path₂ ≡ take at path ++ (x ∷ order)
path_longer path path₂ order at at₁ x h e q =
    let j : at + suc (length order) ≡ at₁ + length order = omega arith in
    ap (λ (j : ℕ). take j path₂) j ∙ q ∙ ap (λ (l : List ℕ). l ++ order) (ap (λ (j : ℕ). take j (set path at x)) e ∙ path_more path at x h)
    ∙ append_snoc (take at path) x order

path_kept : (path path₂ : List ℕ) (at at₁ x : ℕ) → at₁ ≡ at + 1 → take at₁ path₂ ≡ take at₁ (set path at x) → take at path₂ ≡ take at path
path_kept path path₂ at at₁ x e q =
    sym (take-take at at₁ path₂ (omega arith)) ∙ ap (take at) q ∙ take-take at at₁ (set path at x) (omega arith) ∙ take-set-le at path at x (omega arith)

-- no place holds more than a replay's limit
pub small_here : (logs : Recorded) (n k : ℕ) (m path work : List ℕ) → Stands logs n k m path work → Small replay_limit m
small_here logs n k m path work s = record { at = λ p. omega (arith, s.small.at p, s.read_first, s.read_second, s.ready.few_first, s.ready.few_second) }

module _ (logs : Recorded) (which n k : ℕ) (m path work : List ℕ) (w : which < 2) (s : Stands logs n k m path work) where
  -- a step that is closed: all is as it was
  pub step_closed : open_to logs which n k m ≡ false → Ends logs n k m path (way_by logs which n k m) false m path work
  step_closed e =
      ends_back logs n k m path (way_by logs which n k m) false m path work refl
      (record { is = by_closed logs which n k m e; marking = refl; stands = refl; remembers = s.remembers })

  -- a step that is open, by its letter t
  module _ (t : ℕ) (et : t ≡ letter_at logs which n k) (h : t < logs.net.transitions) where
    pub going : Onward logs which n k
    going = onward logs which n k w s.read_first s.read_second (rw et at h)

    pub room_there : n + k < length path
    room_there = let o = going in omega (arith, o.first, o.second, o.steps, s.roomy)

    module _ (pass : passes (arcs_at logs.net t) m ≡ true) (m₁ : List ℕ) (e₁ : m₁ ≡ fired_at logs.net t m) where
      same_start : Alike logs n k m (n + (1 - which)) (k + which) m₁
      same_start = rw (e₁, et) (alike_step logs which n k m w s.marked (rw et at h) (rw et at pass))

      fired_few : Small (tokens_after (n + k) + weight_limit) m₁
      fired_few = rw e₁ (fired_small logs.net t m s.marked pass (tokens_after (n + k)) s.ready.light s.small)

      -- where the search stands after the step
      pub stands_next : Stands logs (n + (1 - which)) (k + which) m₁ (set path (n + k) which) work
      stands_next =
          let o = going in
          record {
            ready = s.ready;
            read_first = o.first;
            read_second = o.second;
            marked = ap length e₁ ∙ fired_long logs.net t m s.marked pass ∙ s.marked;
            small = record { at = λ p. omega (arith, fired_few.at p, o.steps) };
            roomy = rw (length-set path (n + k) which) s.roomy;
            bytes = s.bytes;
            remembers = remembers_along logs same_start s.remembers;
          }

      module _
          (op : open_to logs which n k m ≡ true) (r : Bool) (m₂ path₂ work₂ : List ℕ)
          (e : Ends logs (n + (1 - which)) (k + which) m₁ (set path (n + k) which) (way_from logs (n + (1 - which)) (k + which) m₁) r m₂ path₂ work₂)
        where
          by_this : way_by logs which n k m ≡ onto which (way_from logs (n + (1 - which)) (k + which) m₁)
          by_this = by_open logs which n k m op ∙ ap (λ (x : List ℕ). onto which (way_from logs (n + (1 - which)) (k + which) x)) (sym (rw (← et) e₁))

          -- the rest can be ordered: the step, then the rest
          pub step_found : r ≡ true → Ends logs n k m path (way_by logs which n k m) true m₂ path₂ work₂
          step_found y =
              let v = e.whole y in
              ends_whole logs n k m path (way_by logs which n k m) true m₂ path₂ work₂ refl
              (record {
                order = which ∷ v.order;
                is = by_this ∙ ap (onto which) v.is;
                stands = path_longer path path₂ v.order (n + k) (n + (1 - which) + (k + which)) which room_there going.steps v.stands;
              })

          module _ (y : r ≡ false) where
            there_again : m₂ ≡ fired_at logs.net t m
            there_again = (e.back y).marking ∙ e₁

            -- the rest cannot be ordered: the step can be taken back
            pub back_asks :
                ((t * logs.net.places + logs.net.places ≤ length logs.net.pre) × (t * logs.net.places + logs.net.places ≤ length logs.net.post))
                × ((length m₂ ≡ logs.net.places) × (Small replay_limit m₂ × Enough (row logs.net.places t logs.net.post) m₂))
            back_asks = (
              (pre_end logs.net m t s.ready.sized h, post_end logs.net m t s.ready.sized h),
              (
                ap length there_again ∙ fired_long logs.net t m s.marked pass ∙ s.marked,
                (
                  rw (e.back y).marking (small_here logs (n + (1 - which)) (k + which) m₁ (set path (n + k) which) work stands_next),
                  rw there_again (put_there logs.net t m s.marked pass s.ready.sized h),
                ),
              ),
            )

            -- ... and then all is as it was
            pub step_none :
                (m₃ : List ℕ) → m₃ ≡ taken_back logs.net t m₂
                → Ends logs n k m path (way_by logs which n k m) false m₃ path₂ work₂
            step_none m₃ e₃ =
                let b = e.back y in
                ends_back logs n k m path (way_by logs which n k m) false m₃ path₂ work₂ refl
                (record {
                  is = by_this ∙ ap (onto which) b.is;
                  marking = e₃ ∙ ap (taken_back logs.net t) there_again ∙ back_again logs.net t m s.marked pass;
                  stands = path_kept path path₂ (n + k) (n + (1 - which) + (k + which)) which going.steps b.stands;
                  remembers = remembers_back logs same_start b.remembers;
                })
