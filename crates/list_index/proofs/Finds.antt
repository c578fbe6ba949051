-- Laws of the index of a list, by the code's own hash: that it is made, and the turns of a walk that looks for a marking. Assumes nothing.
use Prim.Native.Nat.{ℕ, ◌+◌, ◌-◌, ◌*◌, ◌≤◌, ◌<◌, zero-le}
use mathlib.Core.Path.{◌≡◌, refl, ap, ◌∙◌}
use mathlib.Core.Bool.{Bool, true, false}
use mathlib.Core.List.{List}
use native.Mathlib.Omega.{arith}
use lib.ListN.{length, get_or, set, replicate, length-set, length-replicate}
use Rattle.ground.specs.Limits.{list_limit}
use Rattle.lists.specs.Whole.{marking_at}
use Rattle.lists.specs.Match.{alike, matches, held}
use Rattle.lists.specs.declared.Kind.TheVariants.{Closed}
use Rattle.list_index.specs.Index.{bucket_count, bucket_of, latest, Index, Indexed}
use Rattle.list_index.proofs.Hashes.{bucket_in}
use Rattle.list_index.proofs.Linked.{index_start, index_next, link_less}
use Rattle.list_index.proofs.Walks.{Walk, walk_start, walk_next, walk_hit, walk_end, within, match_same}

-- the index after k of the n markings: what the loop that makes it has at k
pub record Making (P n : ℕ) (list heads₀ links₀ : List ℕ) (k : ℕ) (heads links : List ℕ) : Type 0 where
  pub most : k ≤ n
  pub wide : length heads ≡ length heads₀
  pub long : length links ≡ length links₀
  pub index : Index (λ k. bucket_of (marking_at P list k)) k heads links

module _ (P n : ℕ) (list heads₀ links₀ : List ℕ) (few : n ≤ list_limit) (none : heads₀ ≡ replicate bucket_count 0) (long : length links₀ ≡ list_limit) where
  heads_long : length heads₀ ≡ bucket_count
  heads_long = ap length none ∙ length-replicate {A = ℕ} bucket_count 0

  pub making_start : Making P n list heads₀ links₀ 0 heads₀ links₀
  making_start =
      record {
        most = zero-le;
        wide = refl;
        long = refl;
        index = index_start (λ k. bucket_of (marking_at P list k)) bucket_count heads₀ links₀ none;
      }

  module _ (k : ℕ) (heads links : List ℕ) (m : Making P n list heads₀ links₀ k heads links) where
    pub bucket_inside : (l : List ℕ) (b : ℕ) → b ≡ bucket_of l → b < length heads
    bucket_inside l b e = bucket_in l b (length heads) e (m.wide ∙ heads_long)

    pub link_inside : k < n → k < length links
    link_inside h = omega (arith, m.long)

    -- v is linked, and w stands for marking number k
    pub making_next : (b v w : ℕ) → k < n → b ≡ bucket_of (marking_at P list k) → v ≡ get_or heads b 0 → w ≡ k + 1 → Making P n list heads₀ links₀ (k + 1) (set heads b w) (set links k v)
    making_next b v w h eb ev ew =
        record {
          most = omega arith;
          wide = length-set heads b w ∙ m.wide;
          long = length-set links k v ∙ m.long;
          index = index_next (λ k. bucket_of (marking_at P list k)) k heads links b v w m.index eb (bucket_inside (marking_at P list k) b eb) (link_inside h) ev ew;
        }

-- what the walk for m knows at its cursor
abbrev pub Seeks : ℕ → ℕ → List ℕ → List ℕ → ℕ → Type 0
Seeks P n list m at = Walk (λ k. bucket_of (marking_at P list k)) (λ k. matches Closed (marking_at P list k) m) (bucket_of m) n at

module _ (P n : ℕ) (list heads links m : List ℕ) (long : length list ≡ n * P) (e : length m ≡ P) (ix : Indexed P n list heads links) where
  pub head_in : (b : ℕ) → b ≡ bucket_of m → b < length heads
  head_in b eb = bucket_in m b (length heads) eb ix.wide

  pub seek_start : (b at : ℕ) → b ≡ bucket_of m → at ≡ get_or heads b 0 → Seeks P n list m at
  seek_start b at eb ea =
      walk_start (λ k. bucket_of (marking_at P list k)) (λ k. matches Closed (marking_at P list k) m) (bucket_of m) n (within bucket_of P n list m long e) at
      (ea ∙ ix.index.heads_are b (head_in b eb) ∙ ap (λ (c : ℕ). latest (λ k. bucket_of (marking_at P list k)) c n) eb)

  -- at the cursor, to the link that is followed
  module _ (at to : ℕ) (w : Seeks P n list m at) (z : 0 < at) (et : to ≡ get_or links (at - 1) 0) where
    pub seek_next : (r : Bool) → r ≡ alike (marking_at P list (at - 1)) m → r ≡ false → Seeks P n list m to
    seek_next r er t =
        walk_next (λ k. bucket_of (marking_at P list k)) (λ k. matches Closed (marking_at P list k) m) (bucket_of m) n (within bucket_of P n list m long e) at to r w z
        (match_same (marking_at P list (at - 1)) m r er) t (et ∙ ix.index.links_are (at - 1) (omega (arith, w.most)))

    pub seek_less : to < at
    seek_less = omega (arith, et, link_less (λ k. bucket_of (marking_at P list k)) n heads links ix.index (at - 1) (omega (arith, w.most)))

module _ (P n : ℕ) (list m : List ℕ) (at : ℕ) (w : Seeks P n list m at) where
  pub seek_hit : (r : Bool) → r ≡ alike (marking_at P list (at - 1)) m → r ≡ true → 0 < at → true ≡ held Closed P n list m
  seek_hit r er t z = walk_hit (λ k. matches Closed (marking_at P list k) m) n at r (match_same (marking_at P list (at - 1)) m r er) t z w.most

  pub seek_end : at ≤ 0 → false ≡ held Closed P n list m
  seek_end z = walk_end (λ k. bucket_of (marking_at P list k)) (λ k. matches Closed (marking_at P list k) m) (bucket_of m) n at w z
