-- Laws of a text appended to a room: one after another, and what of the room stays. Assumes nothing.
use mathlib.Core.Path.{◌≡◌, refl, ◌∙◌, ap}
use mathlib.Core.List.{List, [], ◌∷◌, ◌++◌, append_assoc}
use Prim.Native.Nat.{ℕ, suc, ◌+◌, ◌≤◌}
use native.Mathlib.Omega.{arith}
use lib.ListN.{length, take, drop, set, length-append}
use lib.Seq.{sets, sets-eq, length-sets, length-take-le, take-set-le, drop-set-lt, take_at, drop_at, take-append_seam}
use Rattle.ground.proofs.Stores.{sets_both}
use Rattle.file_put.specs.Append.{Appended}

before : (vs l : List ℕ) (n i : ℕ) → n ≤ i → take n (sets l i vs) ≡ take n l
before [] l n i h = refl
before (x ∷ vs) l n i h = before vs (set l i x) n (suc i) (omega arith) ∙ take-set-le n l i x h

past : (vs l : List ℕ) (i n : ℕ) → i + length vs ≤ n → drop n (sets l i vs) ≡ drop n l
past [] l i n h = refl
past (x ∷ vs) l i n h = past vs (set l i x) (suc i) n (omega arith) ∙ drop-set-lt n l i x (omega arith)

module _ {l : List ℕ} {at : ℕ} {a : List ℕ} {r : ℕ} {m : List ℕ} (p : Appended l at a r m) where
  -- what is still to be appended, seen from the room as it was found
  pub append_rest : (b : List ℕ) → sets m r b ≡ sets l at (a ++ b)
  append_rest b = rw (p.made, p.next) (sets_both a b l at)

  -- two texts appended are one
  pub append_then : {b : List ℕ} {s : ℕ} {n : List ℕ} → Appended m r b s n → Appended l at (a ++ b) s n
  append_then {b} q = record { made = q.made ∙ append_rest b; next = omega (arith, p.next, q.next, length-append a b) }

  pub append_long : length m ≡ length l
  append_long = ap length p.made ∙ length-sets l at a

  -- the entries before the text, and those past its end, are as found, whatever the room's length
  pub append_before : take at m ≡ take at l
  append_before = ap (take at) p.made ∙ before a l at at (omega arith)

  pub append_past : drop r m ≡ drop r l
  append_past = ap (drop r) p.made ∙ past a l at r (omega (arith, p.next))

  -- in a room that holds it the text stands between
  pub append_between : at + length a ≤ length l → take (length a) (drop at m) ≡ a
  append_between h =
      let e : m ≡ take at l ++ (a ++ drop (at + length a) l) = p.made ∙ sets-eq a l at h ∙ append_assoc (take at l) a (drop (at + length a) l) in
      let k : length (take at l) ≡ at = length-take-le at l (omega arith) in
      ap (λ (z : List ℕ). take (length a) (drop at z)) e ∙ ap (take (length a)) (drop_at (take at l) (a ++ drop (at + length a) l) at k) ∙ take-append_seam a (drop (at + length a) l)

  -- and what stands before r is what stood before it, and the text
  pub append_so_far : at + length a ≤ length l → take r m ≡ take at l ++ a
  append_so_far h =
      let k : length (take at l) ≡ at = length-take-le at l (omega arith) in
      ap (take r) (p.made ∙ sets-eq a l at h) ∙ take_at (take at l ++ a) (drop (at + length a) l) r (omega (arith, k, p.next, length-append (take at l) a))
