-- Rows of a table, and what a sized net has of them. Assumes nothing.
use Prim.Native.Nat.{ℕ, ◌+◌, ◌*◌, ◌≤◌, ◌<◌}
use mathlib.Core.Path.{◌≡◌, sym, ◌∙◌}
use mathlib.Core.List.{List}
use native.Mathlib.Omega.{arith}
use native.Mathlib.Nat.{suc-mul, mul-le-mul_right}
use lib.ListN.{length, get_or, drop, length-drop}
use lib.Seq.{length-take-le, get_or-take, get_or-drop}
use Rattle.ground.specs.Limits.{replay_limit}
use Rattle.net.specs.Net.{Net, Sized}
use Rattle.net.specs.Letter.{row, arcs_at, Small, Rows}

pub row_end : (t n k : ℕ) → t < n → t * k + k ≤ n * k
row_end t n k h = rw (← suc-mul t k) (mul-le-mul_right k h)

pub row_length_lem : (n t : ℕ) (l : List ℕ) → t * n + n ≤ length l → length (row n t l) ≡ n
row_length_lem n t l h = length-take-le n (drop (t * n) l) (rw length-drop (omega arith))

-- entry p of row t stands at t x n + p
pub row_at : (n t : ℕ) (l : List ℕ) (p : ℕ) → p < n → get_or (row n t l) p 0 ≡ get_or l (t * n + p) 0
row_at n t l p h = get_or-take n (drop (t * n) l) p 0 h ∙ get_or-drop (t * n) l p 0

module _ (net : Net) (m : List ℕ) (t : ℕ) (sized : Sized net) (h : t < net.transitions) where
  pub pre_end : t * net.places + net.places ≤ length net.pre
  pre_end = rw sized.pres (row_end t net.transitions net.places h)

  pub post_end : t * net.places + net.places ≤ length net.post
  post_end = rw sized.posts (row_end t net.transitions net.places h)

  -- entry p of the transition's rows is in the tables
  pub pre_in : (p : ℕ) → p < net.places → t * net.places + p < length net.pre
  pre_in p l = omega (arith, pre_end)

  pub post_in : (p : ℕ) → p < net.places → t * net.places + p < length net.post
  post_in p l = omega (arith, post_end)

  pub rows_of : length m ≡ net.places → Small replay_limit m → Rows (arcs_at net t) m
  rows_of long s =
      record {
        taken = row_length_lem net.places t net.pre pre_end ∙ sym long;
        put = row_length_lem net.places t net.post post_end ∙ sym long;
        capped = sized.capped ∙ sym long;
        noted = sized.noted ∙ sym long;
        few = rw long sized.few_places;
        small = s;
      }
