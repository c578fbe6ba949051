-- Laws of a list copied into the front of room for the largest. Assumes nothing.
use Prim.Native.Nat.{ℕ, ◌≤◌}
use mathlib.Core.Path.{◌≡◌, sym, ◌∙◌}
use mathlib.Core.List.{List}
use native.Mathlib.Omega.{arith}
use lib.ListN.{length, get_or, take}
use lib.Seq.{ext_get_or, get_or-take, length-take-le}
use Rattle.ground.specs.Limits.{count_limit}
use Rattle.ground.proofs.Fill.{Made}
use Rattle.net.specs.Letter.{Widened}

-- what the loop that copies it has at its end
pub widened_end : (l r₀ : List ℕ) (i : ℕ) (r : List ℕ) → Made 0 (λ k. get_or l k 0) r₀ i r → length r₀ ≡ count_limit → length l ≤ count_limit → length l ≤ i → Widened l r
widened_end l r₀ i r m long few h =
    let e = length-take-le (length l) r (omega (arith, m.filled.long)) in
    record {
      long = m.filled.long ∙ long;
      front = ext_get_or 0 (take (length l) r) l e (λ k b. get_or-take (length l) r k 0 (rw e at b) ∙ m.filled.done k (omega arith));
    }

-- the front, for as many places as the list has
pub widened_front : (n : ℕ) (l room : List ℕ) → Widened l room → length l ≡ n → take n room ≡ l
widened_front n l room w e = rw (← e) w.front

pub widened_long : (n : ℕ) (l room : List ℕ) → Widened l room → n ≤ count_limit → n ≡ length (take n room)
widened_long n l room w h = sym (length-take-le n room (omega (arith, w.long)))
