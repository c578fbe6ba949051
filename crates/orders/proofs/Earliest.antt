-- Laws of the earlier of two orders: it goes past a common step, never holds both ways, and of two orders of the same two logs one is earlier. Assumes nothing.
use Prim.Native.Nat.{ℕ, zero, suc, ◌<◌}
use mathlib.Core.Path.{◌≡◌, refl, sym, ap, ◌∙◌}
use mathlib.Core.List.{List, [], ◌∷◌}
use mathlib.Core.Logic.{◌⊎◌, inl, inr}
use native.Mathlib.Omega.{arith}
use native.Mathlib.Decide.{dec_lt}
use lib.ListN.{get_or, take}
use lib.Seq.{get_or-take}
use Rattle.orders.specs.Orders.{Earlier}
use Rattle.orders.proofs.Weaving.{Weaves, ended, by_first, by_second}

-- the one takes from the first log at once, the other from the second
pub earlier_here : (a b : List ℕ) → Earlier (0 ∷ a) (1 ∷ b)
earlier_here a b = record { step = 0; same = refl; first = refl; second = refl }

-- .. or they do so after a step that they share
pub earlier_next : (x : ℕ) {a b : List ℕ} → Earlier a b → Earlier (x ∷ a) (x ∷ b)
earlier_next x e = record { step = suc e.step; same = ap (λ (l : List ℕ). x ∷ l) e.same; first = e.first; second = e.second }

-- no step is both 0 and 1, and past the end there is none
no_both : (l : List ℕ) (i : ℕ) → get_or l i 1 ≡ 0 → get_or l i 0 ≡ 1 → ⊥
no_both [] i a b = omega arith
no_both (x ∷ l) zero a b = omega arith
no_both (x ∷ l) (suc i) a b = no_both l i a b

-- two lists that are the same up to j are so at each step before it
same_before : (d : ℕ) (a b : List ℕ) (i j : ℕ) → i < j → take j a ≡ take j b → get_or a i d ≡ get_or b i d
same_before d a b i j h e = sym (get_or-take j a i d h) ∙ ap (λ (l : List ℕ). get_or l i d) e ∙ get_or-take j b i d h

-- of two orders not each is the earlier: where they first differ only one takes from the first log
pub not_both : {a b : List ℕ} → Earlier a b → Earlier b a → ⊥
not_both {a} {b} e f = go (dec_lt e.step f.step) (dec_lt f.step e.step)
  where
    go : Dec (e.step < f.step) → Dec (f.step < e.step) → ⊥
    go (yes h) d = no_both b e.step (same_before 1 b a e.step f.step h f.same ∙ e.first) e.second
    go (no h) (yes l) = no_both a f.step (same_before 1 a b f.step e.step l e.same ∙ f.first) f.second
    go (no h) (no l) =
        let q : e.step ≡ f.step = omega arith in
        no_both a f.step (rw q at e.first) f.second

-- which of two is the earlier is so after a step that they share too
either_next : (x : ℕ) {a b : List ℕ} → (a ≡ b) ⊎ (Earlier a b ⊎ Earlier b a) → (◌≡◌ {A = List ℕ} (x ∷ a) (x ∷ b)) ⊎ (Earlier (x ∷ a) (x ∷ b) ⊎ Earlier (x ∷ b) (x ∷ a))
either_next x (inl e) = inl (ap (λ (l : List ℕ). x ∷ l) e)
either_next x (inr (inl e)) = inr (inl (earlier_next x e))
either_next x (inr (inr e)) = inr (inr (earlier_next x e))

-- of two orders of the same two logs that differ one is the earlier
pub one_earlier : {u v a b : List ℕ} → Weaves u v a → Weaves u v b → (a ≡ b) ⊎ (Earlier a b ⊎ Earlier b a)
one_earlier ended ended = inl refl
one_earlier (by_first w) (by_first x) = either_next 0 (one_earlier w x)
one_earlier (by_first w) (by_second x) = inr (inl (earlier_here _ _))
one_earlier (by_second w) (by_first x) = inr (inr (earlier_here _ _))
one_earlier (by_second w) (by_second x) = either_next 1 (one_earlier w x)
