-- Laws of joined slots: associative, the empty slot neutral, well formed. Assumes nothing.
use Prim.Native.Nat.{ℕ, ◌+◌, ◌≤◌, ◌<◌}
use mathlib.Core.Path.{◌≡◌, sym, ap, ◌∙◌}
use mathlib.Core.List.{List}
use native.Mathlib.Omega.{arith}
use lib.ListN.{length, get_or}
use lib.IntN.{ℤ, ◌+ℤ◌, +ℤ_assoc, +ℤ_idl, +ℤ_idr}
use lib.Seq.{ext_get_or}
use Rattle.ground.specs.Limits.{count_limit}
use Rattle.ground.specs.Parts.{up, dn}
use Rattle.ground.proofs.Fill.{Filled, fill_end, map_at_length, map_at_at}
use Rattle.ground.proofs.Parts.{up_sum, dn_sum}
use Rattle.summary_place.specs.Slots.{nil, joined, joined_all}
use Rattle.summary_place.specs.Walk.{step, Well}
use Rattle.summary_place.specs.declared.Slot.{Slot}
use Rattle.summary_place.proofs.Steps.{step_y, step_least, step_is, step_diff, step_assoc, step_left, step_right}
use Rattle.summary_place.proofs.Words.{minus_up, plus_up}

-- the join in numbers that are not signed
pub joined_step : (a b : Slot) → joined a b ≡ record { need = step a.need b.need (dn a.change) (up a.change); climb = step a.climb b.climb (up a.change) (dn a.change); change = a.change +ℤ b.change }
unfolding joined
joined_step a b =
    λ i. record {
      need = step_is a.need b.need (dn a.change) (up a.change) _ (minus_up b.need a.change) i;
      climb = step_is a.climb b.climb (up a.change) (dn a.change) _ (plus_up a.change b.climb) i;
      change = a.change +ℤ b.change;
    }

pub joined_is : (a b s : Slot) → s.need ≡ step a.need b.need (dn a.change) (up a.change) → s.climb ≡ step a.climb b.climb (up a.change) (dn a.change) → s.change ≡ a.change +ℤ b.change → s ≡ joined a b
joined_is a b s n k c = (λ i. record { need = n i; climb = k i; change = c i }) ∙ sym (joined_step a b)

pub joined_assoc : (a b c : Slot) → joined (joined a b) c ≡ joined a (joined b c)
joined_assoc a b c =
    joined_step (joined a b) c ∙ (λ i. record {
      need = (ap (λ (s : Slot). step s.need c.need (dn s.change) (up s.change)) (joined_step a b)
          ∙ step_diff _ c.need _ _ _ _ both ∙ step_assoc a.need b.need c.need _ _ _ _
          ∙ sym (ap (λ (s : Slot). step a.need s.need (dn x) (up x)) (joined_step b c))) i;
      climb = (ap (λ (s : Slot). step s.climb c.climb (up s.change) (dn s.change)) (joined_step a b)
          ∙ step_diff _ c.climb _ _ _ _ back ∙ step_assoc a.climb b.climb c.climb _ _ _ _
          ∙ sym (ap (λ (s : Slot). step a.climb s.climb (up x) (dn x)) (joined_step b c))) i;
      change = (ap (λ (s : Slot). s.change +ℤ c.change) (joined_step a b) ∙ +ℤ_assoc x y c.change ∙ sym (ap (λ (s : Slot). x +ℤ s.change) (joined_step b c))) i;
    }) ∙ sym (joined_step a (joined b c))
  where
    x : ℤ
    x = a.change

    y : ℤ
    y = b.change

    both : dn (x +ℤ y) + (up x + up y) ≡ (dn x + dn y) + up (x +ℤ y)
    both = omega (arith, up_sum x y, dn_sum x y)

    back : up (x +ℤ y) + (dn x + dn y) ≡ (up x + up y) + dn (x +ℤ y)
    back = omega (arith, up_sum x y, dn_sum x y)

pub nil_joined : (a : Slot) → joined nil a ≡ a
nil_joined a = joined_step nil a ∙ (λ i. record { need = step_left a.need i; climb = step_left a.climb i; change = +ℤ_idl a.change i })

pub joined_nil : (cap : ℕ) (a : Slot) → Well cap a → joined a nil ≡ a
joined_nil cap a w =
    joined_step a nil ∙ (λ i. record {
      need = step_right a.need (dn a.change) (up a.change) (omega arith) i;
      climb = step_right a.climb (up a.change) (dn a.change) (omega arith) i;
      change = +ℤ_idr a.change i;
    })

-- the join of two well-formed slots is well formed
pub joined_well : (a b : Slot) (m n : ℕ) → Well m a → Well n b → Well (m + n) (joined a b)
joined_well a b m n x y =
    let u = up_sum a.change b.change in
    let d = dn_sum a.change b.change in
    let s = step_y a.need b.need (dn a.change) (up a.change) in
    let t = step_y a.climb b.climb (up a.change) (dn a.change) in
    rw (joined_step a b)
    (record {
      need = step_least a.need b.need (dn a.change) (up a.change) (m + n) (omega arith) (omega arith);
      climb = step_least a.climb b.climb (up a.change) (dn a.change) (m + n) (omega arith) (omega arith);
      down = omega arith;
      top = omega arith;
    })

-- slot by slot
pub all_length : (a b : List Slot) → length (joined_all a b) ≡ length a
all_length a b = map_at_length (λ k x. joined x (get_or b k nil)) a

pub all-at : (a b : List Slot) (k : ℕ) → k < length a → get_or (joined_all a b) k nil ≡ joined (get_or a k nil) (get_or b k nil)
all-at a b k h = map_at_at (λ k x. joined x (get_or b k nil)) a k nil nil h

pub all_assoc : (a b c : List Slot) → length b ≡ length a → joined_all (joined_all a b) c ≡ joined_all a (joined_all b c)
all_assoc a b c e =
    ext_get_or nil (joined_all (joined_all a b) c) (joined_all a (joined_all b c))
    (all_length (joined_all a b) c ∙ all_length a b ∙ sym (all_length a (joined_all b c)))
    (λ k h.
    let l : k < length a = omega (arith, all_length (joined_all a b) c, all_length a b) in
    all-at (joined_all a b) c k (omega (arith, all_length a b))
    ∙ ap (λ (s : Slot). joined s (get_or c k nil)) (all-at a b k l)
    ∙ joined_assoc (get_or a k nil) (get_or b k nil) (get_or c k nil)
    ∙ sym (ap (joined (get_or a k nil)) (all-at b c k (omega arith)))
    ∙ sym (all-at a (joined_all b c) k l))

-- the loop that joins in place, at its end
module _ (a b : List Slot) (p : ℕ) (r : List Slot) (f : Filled nil (λ k x. joined x (get_or b k nil)) a p r) where
  pub joins_end : length a ≡ count_limit → count_limit ≤ p → r ≡ joined_all a b
  joins_end e h = fill_end nil (λ k x. joined x (get_or b k nil)) a p r f (omega (arith, f.long))
