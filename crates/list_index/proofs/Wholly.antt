-- Laws of two markings compared in one plain pass: that no place was counted says that they are alike. Assumes nothing.
use Prim.Native.Nat.{ℕ, ◌≤◌}
use mathlib.Core.Path.{◌≡◌, refl, sym, ◌∙◌}
use mathlib.Core.Bool.{Bool, true, false}
use lib.Dec.{eqb}
use borrow.Author.Tests.{eqb-true, eq-eqb}
use Rattle.ground.specs.Lists.{tally}
use Rattle.ground.proofs.Scan.{tally_end, tally_none, none_of}
use Rattle.lists.specs.Some.{none}
use Rattle.lists.proofs.Somes.{is_none, none_at}

-- none passes exactly where the count is 0
none_counted : (f : ℕ → Bool) (n : ℕ) → eqb (tally f n) 0 ≡ none f n
none_counted f n = go (none f n) refl
  where
    go : (t : Bool) → none f n ≡ t → eqb (tally f n) 0 ≡ none f n
    go true q = eq-eqb (tally f n) 0 (tally_none f n (record { none = none_at f n q })) ∙ sym q
    go false q = other (eqb (tally f n) 0) refl
      where
        other : (t : Bool) → eqb (tally f n) 0 ≡ t → eqb (tally f n) 0 ≡ none f n
        other true e = e ∙ sym (is_none f n (none_of f n (eqb-true (tally f n) 0 e)).none)
        other false e = e ∙ sym q

pub whole_end : (f : ℕ → Bool) (i n b : ℕ) → n ≡ tally f i → i ≤ b → b ≤ i → eqb n 0 ≡ none f b
whole_end f i n b e h l = tally_end f i n b e h l ∙ none_counted f b
