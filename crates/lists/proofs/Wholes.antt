-- Laws of lists of markings: room for one, and a list's markings. Assumes nothing.
use Prim.Native.Nat.{ℕ, ◌+◌, ◌*◌, ◌≤◌, ◌<◌, zero-le}
use mathlib.Core.Path.{◌≡◌, sym}
use mathlib.Core.List.{List}
use native.Mathlib.Omega.{arith}
use native.Mathlib.Decide.{dec_lt}
use lib.ListN.{length, get_or, take, drop, length-drop, get_or-eq_default}
use lib.Seq.{length-take-le}
use Rattle.ground.specs.Limits.{count_limit}
use Rattle.net.specs.Letter.{Small}
use Rattle.net.proofs.Rows.{row_end, row_at}
use Rattle.lists.specs.Whole.{marking_at}

-- the front of such a room, for P places
module _ (P : ℕ) (room : List ℕ) (long : length room ≡ count_limit) (few : P ≤ count_limit) where
  pub front_long : length (take P room) ≡ P
  front_long = length-take-le P room (omega arith)

  pub long_front : P ≡ length (take P room)
  long_front = sym front_long

pub ruleset fronts = (front_long, long_front)

-- marking number k of a list of n whole markings
module _ (P n : ℕ) (list : List ℕ) (k : ℕ) (long : length list ≡ n * P) (h : k < n) where
  pub marking_end : k * P + P ≤ length list
  marking_end = omega (arith, row_end k n P h)

  pub marking_long : length (marking_at P list k) ≡ P
  marking_long = length-take-le P (drop (k * P) list) (rw length-drop (omega (arith, marking_end)))

  -- its entries are the list's
  pub marking_small : (b : ℕ) → Small b list → Small b (marking_at P list k)
  marking_small b s = record { at = λ p. go p (dec_lt p P) }
    where
      go : (p : ℕ) → Dec (p < P) → get_or (marking_at P list k) p 0 ≤ b
      go p (yes l) = rw (row_at P k list p l) (s.at (k * P + p))
      go p (no x) = rw (get_or-eq_default (marking_at P list k) 0 {n = p} (omega (arith, marking_long))) zero-le
