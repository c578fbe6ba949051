-- Laws of `map_at` and `table`, and of loops that change or fill a list entry by entry. Assumes nothing.
use Prim.Native.Nat.{ℕ, zero, suc, ◌+◌, ◌≤◌, ◌<◌}
use mathlib.Core.Path.{◌≡◌, refl, sym, ap, ◌∙◌}
use mathlib.Core.List.{List, [], ◌∷◌}
use native.Mathlib.Omega.{arith}
use native.Mathlib.Nat.{not-suc-le-zero, le_of_suc-le-suc}
use lib.ListN.{length, get_or, set, length-set}
use lib.Seq.{ext_get_or, get_or-set_same, get_or-set_other}
use borrow.Author.Count.{below_more}
use Rattle.ground.specs.Lists.{map_at, table}

pub map_at_length : {A B : Type 0} (g : ℕ → A → B) (l : List A) → length (map_at g l) ≡ length l
unfolding map_at
map_at_length g [] = refl
map_at_length g (x ∷ xs) = ap suc (map_at_length (λ k. g (suc k)) xs)

pub map_at_at : {A B : Type 0} (g : ℕ → A → B) (l : List A) (k : ℕ) (d : A) (e : B) → k < length l → get_or (map_at g l) k e ≡ g k (get_or l k d)
unfolding map_at
map_at_at g [] k d e h = absurd (not-suc-le-zero h)
map_at_at g (x ∷ xs) zero d e h = refl
map_at_at g (x ∷ xs) (suc k) d e h = map_at_at (λ k. g (suc k)) xs k d e (le_of_suc-le-suc h)

pub table_length : {A : Type 0} (f : ℕ → A) (n : ℕ) → length (table f n) ≡ n
unfolding table
table_length f zero = refl
table_length f (suc n) = ap suc (table_length (λ k. f (suc k)) n)

pub table_at : {A : Type 0} (f : ℕ → A) (n k : ℕ) (d : A) → k < n → get_or (table f n) k d ≡ f k
unfolding table
table_at f zero k d h = absurd (not-suc-le-zero h)
table_at f (suc n) zero d h = refl
table_at f (suc n) (suc k) d h = table_at (λ k. f (suc k)) n k d (le_of_suc-le-suc h)

-- a loop that changes a list in place, entry by entry: what it has at i
pub record Filled {A : Type 0} (d : A) (g : ℕ → A → A) (l₀ : List A) (i : ℕ) (l : List A) : Type 0 where
  pub long : length l ≡ length l₀
  pub done : (k : ℕ) → k < i → get_or l k d ≡ g k (get_or l₀ k d)
  pub rest : (k : ℕ) → i ≤ k → get_or l k d ≡ get_or l₀ k d

module _ {A : Type 0} (d : A) (g : ℕ → A → A) where
  pub fill_start : (l : List A) → Filled d g l 0 l
  fill_start l = record { long = refl; done = λ k h. absurd (not-suc-le-zero h); rest = λ k h. refl }

  pub fill_next : (l₀ : List A) (i : ℕ) (l : List A) (v : A) → Filled d g l₀ i l → i < length l → v ≡ g i (get_or l i d) → Filled d g l₀ (i + 1) (set l i v)
  fill_next l₀ i l v f h e =
      record {
        long = length-set l i v ∙ f.long;
        done = below_more (λ k. get_or (set l i v) k d ≡ g k (get_or l₀ k d)) i
            (λ k b. get_or-set_other l i k v d (λ q. omega arith) ∙ f.done k b)
            (get_or-set_same l i v d h ∙ e ∙ ap (g i) (f.rest i (omega arith)));
        rest = λ k b. get_or-set_other l i k v d (λ q. omega arith) ∙ f.rest k (omega arith);
      }

  pub fill_end : (l₀ : List A) (i : ℕ) (l : List A) → Filled d g l₀ i l → length l₀ ≤ i → l ≡ map_at g l₀
  fill_end l₀ i l f h =
      ext_get_or d l (map_at g l₀) (f.long ∙ sym (map_at_length g l₀))
      (λ k b. f.done k (omega (arith, f.long)) ∙ sym (map_at_at g l₀ k d d (rw f.long at b)))

  -- the entry that such a loop has come to
  pub fill_here : (l₀ : List A) (i : ℕ) (l : List A) → Filled d g l₀ i l → get_or l i d ≡ get_or l₀ i d
  fill_here l₀ i l f = f.rest i (omega arith)

pub ruleset fills = (fill_start, fill_next, fill_end)

-- a loop that fills a list by number, whatever stood there: what it has at i
pub record Made {A : Type 0} (d : A) (f : ℕ → A) (l₀ : List A) (i : ℕ) (l : List A) : Type 0 where
  pub filled : Filled d (λ k x. f k) l₀ i l

module _ {A : Type 0} (d : A) (f : ℕ → A) where
  pub make_start : (l : List A) → Made d f l 0 l
  make_start l = record { filled = fill_start d (λ k x. f k) l }

  pub make_next : (l₀ : List A) (i : ℕ) (l : List A) (v : A) → Made d f l₀ i l → i < length l → v ≡ f i → Made d f l₀ (i + 1) (set l i v)
  make_next l₀ i l v m h e = record { filled = fill_next d (λ k x. f k) l₀ i l v m.filled h e }

  pub make_end : (l₀ : List A) (i : ℕ) (l : List A) → Made d f l₀ i l → length l₀ ≤ i → l ≡ table f (length l₀)
  make_end l₀ i l m h =
      ext_get_or d l (table f (length l₀)) (m.filled.long ∙ sym (table_length f (length l₀)))
      (λ k b. m.filled.done k (omega (arith, m.filled.long)) ∙ sym (table_at f (length l₀) k d (rw m.filled.long at b)))

pub ruleset makes = (make_start, make_next, make_end)

-- a list is made of its own entries
pub table_own : {A : Type 0} (d : A) (l : List A) → table (λ k. get_or l k d) (length l) ≡ l
table_own d l =
    ext_get_or d (table (λ k. get_or l k d) (length l)) l (table_length (λ k. get_or l k d) (length l))
    (λ k h. table_at (λ k. get_or l k d) (length l) k d (rw (table_length (λ k. get_or l k d) (length l)) at h))
