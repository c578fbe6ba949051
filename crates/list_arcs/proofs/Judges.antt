-- Laws of a transition judged by its arcs: a place without one does not stop it, and a pass over the others tells what a pass over all would. Assumes nothing.
use Prim.Native.Nat.{ℕ, ◌+◌, ◌≤◌, ◌<◌}
use mathlib.Core.Path.{◌≡◌, refl, sym, ◌∙◌}
use mathlib.Core.Bool.{Bool, true, false, ◌&&◌, ◌||◌}
use mathlib.Core.List.{List}
use native.Mathlib.Omega.{arith}
use native.Mathlib.Decide.{dec_le, dec_lt}
use lib.ListN.{length, get_or}
use lib.Dec.{ltb, eqb}
use borrow.Author.Tests.{le-ltb, eqb-true, eq-eqb}
use Rattle.ground.specs.Limits.{no_capacity}
use Rattle.ground.specs.Lists.{tally}
use Rattle.ground.proofs.Tests.{never, both_false}
use Rattle.ground.proofs.Scan.{none_of, tally_none}
use Rattle.net.specs.Net.{Net, leaves_first}
use Rattle.net.specs.Letter.{short_at, over_at, arcs_at, stops, passes}
use Rattle.net.proofs.Rows.{row_at}
use Rattle.list_arcs.specs.Arc.{Next, Within}

pub and-false : (a b : Bool) → b ≡ false → (a && b) ≡ false
and-false true b e = e
and-false false b e = refl

-- a place without an arc, within its capacity, does not stop a transition
bare_passes : (takes puts cap mark tokens : ℕ) → takes ≡ 0 → puts ≡ 0 → tokens ≤ cap → (short_at takes tokens || over_at takes puts cap mark tokens) ≡ false
bare_passes takes puts cap mark tokens e f h =
    both_false (ltb tokens takes) (ltb cap no_capacity && ltb (cap + leaves_first mark takes) (tokens + puts)) (le-ltb tokens takes (omega arith))
    (and-false (ltb cap no_capacity) (ltb (cap + leaves_first mark takes) (tokens + puts)) (le-ltb (cap + leaves_first mark takes) (tokens + puts) (omega arith)))

-- nothing from i on, of n, passes the test: what a pass from the last place down knows at i
pub record Above (f : ℕ → Bool) (i n : ℕ) : Type 0 where
  pub none : (k : ℕ) → i ≤ k → k < n → f k ≡ false

above_next : (f : ℕ → Bool) (p q n : ℕ) → Above f p n → ((j : ℕ) → q < j → j < p → f j ≡ false) → f q ≡ false → Above f q n
above_next f p q n hi between here = record { none = λ k h l. go k h l (dec_le p k) (dec_lt q k) }
  where
    go : (k : ℕ) → q ≤ k → k < n → Dec (p ≤ k) → Dec (q < k) → f k ≡ false
    go k h l (yes a) d = hi.none k a l
    go k h l (no a) (yes b) = between k b (omega arith)
    go k h l (no a) (no b) = let z : q ≡ k = omega arith in rw z at here

-- a test that is passed once is not passed by none
seen_counts : (f : ℕ → Bool) (n q : ℕ) → f q ≡ true → q < n → false ≡ eqb (tally f n) 0
seen_counts f n q e h = go (eqb (tally f n) 0) refl
  where
    go : (b : Bool) → eqb (tally f n) 0 ≡ b → false ≡ eqb (tally f n) 0
    go true r = never (sym e ∙ (none_of f n (eqb-true (tally f n) 0 r)).none q h)
    go false r = sym r

none_counts : (f : ℕ → Bool) (n p : ℕ) → Above f p n → p ≤ 0 → true ≡ eqb (tally f n) 0
none_counts f n p hi h = sym (eq-eqb (tally f n) 0 (tally_none f n (record { none = λ k l. hi.none k (omega arith) l })))

module _ (net : Net) (m : List ℕ) (t : ℕ) (long : length m ≡ net.places) where
  -- r is the test's answer at q, the place after p
  module _ (w : Within net.caps m) (p q : ℕ) (l : p ≤ net.places) (n : Next net.places net.pre net.post t p q) where
    module _ (r : Bool) (e : r ≡ stops (arcs_at net t) m q) where
      pub judge_next : r ≡ false → Above (stops (arcs_at net t) m) p (length m) → Above (stops (arcs_at net t) m) q (length m)
      judge_next f a = above_next (stops (arcs_at net t) m) p q (length m) a between (sym e ∙ f)
        where
          between : (j : ℕ) → q < j → j < p → stops (arcs_at net t) m j ≡ false
          between j b d =
              rw (row_at net.places t net.pre j (omega arith), row_at net.places t net.post j (omega arith))
              (bare_passes _ _ (get_or net.caps j 0) (get_or net.marks j 0) (get_or m j 0) (n.bare j b d).0 (n.bare j b d).1 (w.at j (omega arith)))

      pub judge_seen : r ≡ true → false ≡ passes (arcs_at net t) m
      judge_seen f = seen_counts (stops (arcs_at net t) m) (length m) q (sym e ∙ f) (omega (arith, n.less))

  pub judge_end : (p : ℕ) → Above (stops (arcs_at net t) m) p (length m) → p ≤ 0 → true ≡ passes (arcs_at net t) m
  judge_end p a z = none_counts (stops (arcs_at net t) m) (length m) p a z
