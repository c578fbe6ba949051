-- Laws of a transition fired by its arcs: a place without one keeps its tokens. Assumes nothing.
use Prim.Native.Nat.{ℕ, ◌+◌, ◌-◌, ◌≤◌, ◌<◌}
use mathlib.Core.Path.{◌≡◌, refl, sym, ◌∙◌}
use mathlib.Core.Bool.{true}
use mathlib.Core.List.{List}
use native.Mathlib.Omega.{arith}
use native.Mathlib.Decide.{dec_le, dec_lt}
use lib.ListN.{length, get_or, set, length-set}
use lib.Seq.{ext_get_or, get_or-set_same, get_or-set_other}
use Rattle.ground.proofs.Fill.{map_at_length, map_at_at}
use Rattle.ground.specs.Lists.{map_at}
use Rattle.net.specs.Net.{Net, Sized}
use Rattle.net.specs.Letter.{after, arcs_at, passes, fired_at}
use Rattle.net.proofs.Rows.{row_at, row_length_lem, pre_end}
use Rattle.net.proofs.Letters.{enough_of}
use Rattle.list_arcs.specs.Arc.{Next}

-- a list changed from the last entry down: what the loop has at p
pub record Changed (g : ℕ → ℕ → ℕ) (m : List ℕ) (p : ℕ) (r : List ℕ) : Type 0 where
  pub long : length r ≡ length m
  pub rest : (k : ℕ) → k < p → get_or r k 0 ≡ get_or m k 0
  pub done : (k : ℕ) → p ≤ k → k < length m → get_or r k 0 ≡ g k (get_or m k 0)

module _ (g : ℕ → ℕ → ℕ) (m : List ℕ) where
  -- from p to q, where those between stay as they are
  change_next : (p q : ℕ) (r : List ℕ) (v : ℕ) → Changed g m p r → q < p → p ≤ length m → ((j : ℕ) → q < j → j < p → g j (get_or m j 0) ≡ get_or m j 0) → v ≡ g q (get_or m q 0) → Changed g m q (set r q v)
  change_next p q r v c l h stay e =
      record {
        long = length-set r q v ∙ c.long;
        rest = λ k b. get_or-set_other r q k v 0 (λ z. omega arith) ∙ c.rest k (omega arith);
        done = λ k b d. go k b d (dec_lt q k) (dec_le p k);
      }
    where
      go : (k : ℕ) → q ≤ k → k < length m → Dec (q < k) → Dec (p ≤ k) → get_or (set r q v) k 0 ≡ g k (get_or m k 0)
      go k b d (yes a) (yes f) = get_or-set_other r q k v 0 (λ z. omega arith) ∙ c.done k f d
      go k b d (yes a) (no f) = get_or-set_other r q k v 0 (λ z. omega arith) ∙ c.rest k (omega arith) ∙ sym (stay k a (omega arith))
      go k b d (no a) f = let z : k ≡ q = omega arith in rw z (get_or-set_same r q v 0 (omega (arith, c.long)) ∙ e)

  change_end : (p : ℕ) (r : List ℕ) → Changed g m p r → p ≤ 0 → r ≡ map_at g m
  change_end p r c z =
      ext_get_or 0 r (map_at g m) (c.long ∙ sym (map_at_length g m))
      (λ k b. c.done k (omega arith) (rw c.long at b) ∙ sym (map_at_at g m k 0 0 (rw c.long at b)))

-- what a firing by arcs has at p
abbrev pub Firing : Net → ℕ → List ℕ → ℕ → List ℕ → Type 0
Firing net t m p r = Changed (after (arcs_at net t).takes (arcs_at net t).puts) m p r

module _ (net : Net) (m : List ℕ) (t : ℕ) (long : length m ≡ net.places) where
  module _ (p q : ℕ) (l : p ≤ net.places) (n : Next net.places net.pre net.post t p q) where
    pub firing_next : (r : List ℕ) (v : ℕ) → Firing net t m p r → v ≡ after (arcs_at net t).takes (arcs_at net t).puts q (get_or m q 0) → Firing net t m q (set r q v)
    firing_next r v c e = change_next (after (arcs_at net t).takes (arcs_at net t).puts) m p q r v c n.less (omega arith) between e
      where
        stay : (x takes puts : ℕ) → takes ≡ 0 → puts ≡ 0 → x + puts - takes ≡ x
        stay x takes puts a b = omega arith

        between : (j : ℕ) → q < j → j < p → after (arcs_at net t).takes (arcs_at net t).puts j (get_or m j 0) ≡ get_or m j 0
        between j a b =
            rw (row_at net.places t net.pre j (omega arith), row_at net.places t net.post j (omega arith))
            (stay (get_or m j 0) _ _ (n.bare j a b).0 (n.bare j a b).1)

  -- enough tokens are there
  pub firing_enough : (q : ℕ) → Sized net → t < net.transitions → passes (arcs_at net t) m ≡ true → get_or (arcs_at net t).takes q 0 ≤ get_or m q 0
  firing_enough q sized h e =
      (enough_of (arcs_at net t) m true (row_length_lem net.places t net.pre (pre_end net m t sized h) ∙ sym long) (sym e) refl).at q

  pub firing_end : (p : ℕ) (r : List ℕ) → Firing net t m p r → p ≤ 0 → r ≡ fired_at net t m
  firing_end p r c z = change_end (after (arcs_at net t).takes (arcs_at net t).puts) m p r c z
