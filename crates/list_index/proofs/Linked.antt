-- Laws of an index, for any buckets: an empty one, and one marking more. Assumes nothing.
use Prim.Native.Nat.{ℕ, suc, ◌+◌, ◌≤◌, ◌<◌}
use mathlib.Core.Path.{◌≡◌, refl, sym, ap, ◌∙◌}
use mathlib.Core.Bool.{Bool, true, false}
use mathlib.Core.List.{List}
use native.Mathlib.Omega.{arith}
use native.Mathlib.Numerals.{add-one}
use native.Mathlib.Nat.{not-suc-le-zero}
use lib.ListN.{length, get_or, set, replicate, length-set, length-replicate, get_or-replicate}
use lib.Seq.{get_or-set_same, get_or-set_other}
use lib.Dec.{eqb}
use borrow.Author.Tests.{eqb-true, eqb-false}
use borrow.Author.Count.{below_more}
use Rattle.list_index.specs.Index.{latest, Index}
use Rattle.list_index.proofs.Latest.{latest_most, latest_same, latest_other}

-- no marking, and no bucket has one
pub index_start : (h : ℕ → ℕ) (B : ℕ) (heads links : List ℕ) → heads ≡ replicate B 0 → Index h 0 heads links
unfolding latest
index_start h B heads links e =
    record {
      heads_are = λ b l. go b (rw (ap length e ∙ length-replicate {A = ℕ} B 0) at l);
      links_are = λ k l. absurd (not-suc-le-zero l);
    }
  where
    go : (b : ℕ) → b < B → get_or heads b 0 ≡ 0
    go b l = rw e (get_or-replicate {A = ℕ} B b 0 0 l)

-- marking number k of bucket b: it links to the latest of its bucket, and is then the latest itself
module _ (h : ℕ → ℕ) (k : ℕ) (heads links : List ℕ) (b v w : ℕ) (ix : Index h k heads links) (eb : b ≡ h k) (hb : b < length heads) (hl : k < length links) (ev : v ≡ get_or heads b 0) (ew : w ≡ k + 1) where
  head_next : (c : ℕ) → c < length (set heads b w) → get_or (set heads b w) c 0 ≡ latest h c (suc k)
  head_next c l = go (eqb c b) refl
    where
      go : (t : Bool) → eqb c b ≡ t → get_or (set heads b w) c 0 ≡ latest h c (suc k)
      go true q = rw (eqb-true c b q) (get_or-set_same heads b w 0 hb ∙ ew ∙ add-one k ∙ sym (latest_same h b k (sym eb)))
      go false q =
          get_or-set_other heads b c w 0 (λ e. eqb-false c b q (omega arith))
          ∙ ix.heads_are c (rw (length-set heads b w) at l)
          ∙ sym (latest_other h c k (λ e. eqb-false c b q (sym e ∙ sym eb)))

  pub index_next : Index h (k + 1) (set heads b w) (set links k v)
  index_next =
      record {
        heads_are = λ c l. rw (add-one k) (head_next c l);
        links_are = below_more (λ j. get_or (set links k v) j 0 ≡ latest h (h j) j) k
            (λ j l. get_or-set_other links k j v 0 (λ q. omega arith) ∙ ix.links_are j l)
            (get_or-set_same links k v 0 hl ∙ ev ∙ ix.heads_are b hb ∙ ap (λ (c : ℕ). latest h c k) eb);
      }

-- a link names a marking before its own
pub link_less : (h : ℕ → ℕ) (n : ℕ) (heads links : List ℕ) → Index h n heads links → (k : ℕ) → k < n → get_or links k 0 ≤ k
link_less h n heads links ix k l = omega (arith, ix.links_are k l, latest_most h (h k) k)
