-- Laws of the loops that choose places and write the rooms. Assumes nothing.
use Prim.Native.Nat.{ℕ, zero, suc, ◌+◌, ◌-◌, ◌*◌, ◌≤◌, ◌<◌, zero-le}
use mathlib.Core.Path.{◌≡◌, refl, sym, ap, ◌∙◌}
use mathlib.Core.Bool.{Bool, true, false}
use mathlib.Core.List.{List, [], ◌∷◌, ◌++◌, map}
use native.Mathlib.Omega.{arith}
use native.Mathlib.Numerals.{add-one}
use native.Mathlib.Nat.{suc-mul}
use native.Mathlib.Decide.{dec_lt}
use lib.ListN.{length, get_or, set, take, drop, replicate, length-replicate, length-set, length-append, length-map, drop_of_length-le, get_or-append}
use lib.Seq.{sets, length-sets, drop-cons, sets-eq, take_at, ext_get_or, get_or-take, get_or-append-add, length-take-le}
use lib.Dec.{ltb}
use borrow.Author.Tests.{lt-ltb, le-ltb}
use Rattle.ground.specs.Limits.{count_limit}
use Rattle.ground.specs.Lists.{map_at, table}
use Rattle.ground.proofs.Stores.{sets_both, sets_whole}
use Rattle.ground.proofs.Fill.{map_at_length, map_at_at, table_length, table_at, Made, make_end}
use Rattle.net.specs.Letter.{row}
use Rattle.net.proofs.Rows.{row_length_lem}
use Rattle.complement.specs.Complement.{chosen_from, joined}
use Rattle.complement.proofs.Choice.{map_at_lem}

-- the chosen numbers from p on, of n: one more, none more, no number left. r is the test's answer at p
module _ (f : ℕ → Bool) (n p : ℕ) where
  chosen_yes : (r : Bool) → p < n → r ≡ f p → r ≡ true → chosen_from f p (n - p) ≡ p ∷ chosen_from f (p + 1) (n - (p + 1))
  unfolding chosen_from
  chosen_yes r h e q = let x : n - p ≡ suc (n - (p + 1)) = omega arith in rw (x, sym e ∙ q, add-one p, chosen_from)

  chosen_no : (r : Bool) → p < n → r ≡ f p → r ≡ false → chosen_from f p (n - p) ≡ chosen_from f (p + 1) (n - (p + 1))
  unfolding chosen_from
  chosen_no r h e q = let x : n - p ≡ suc (n - (p + 1)) = omega arith in rw (x, sym e ∙ q, add-one p, chosen_from)

  chosen_end : n ≤ p → chosen_from f p (n - p) ≡ []
  unfolding chosen_from
  chosen_end h = let x : n - p ≡ 0 = omega arith in rw x

-- the count at p, c so far
pub record Counted (f : ℕ → Bool) (n c p : ℕ) : Type 0 where
  pub passed : p ≤ n
  pub less : c ≤ p
  pub same : c + length (chosen_from f p (n - p)) ≡ length (chosen_from f 0 n)

module _ (f : ℕ → Bool) (n : ℕ) where
  pub count_start : Counted f n 0 0
  count_start = let x : n - 0 ≡ n = omega arith in record { passed = zero-le; less = zero-le; same = rw x (omega arith) }

  module _ (c p : ℕ) (i : Counted f n c p) where
    pub count_yes : (r : Bool) (c' : ℕ) → p < n → r ≡ f p → r ≡ true → c' ≡ c + 1 → Counted f n c' (p + 1)
    count_yes r c' h e q k = record { passed = omega arith; less = omega (arith, i.less); same = omega (arith, i.same, ap length (chosen_yes f n p r h e q)) }

    pub count_no : (r : Bool) (c' : ℕ) → p < n → r ≡ f p → r ≡ false → c' ≡ c → Counted f n c' (p + 1)
    count_no r c' h e q k = record { passed = omega arith; less = omega (arith, i.less); same = omega (arith, i.same, ap length (chosen_no f n p r h e q)) }

    pub count_end : n ≤ p → c ≡ length (chosen_from f 0 n)
    count_end h = omega (arith, i.same, ap length (chosen_end f n p h))

pub ruleset counts = (count_start, count_yes, count_no, count_end)

-- every number in order, p so far
module _ (p : ℕ) (l : List ℕ) (m : Made 0 (λ k. k) (replicate count_limit 0) p l) where
  pub own_end : count_limit ≤ p → l ≡ table (λ k. k) count_limit
  own_end h =
      make_end 0 (λ k. k) (replicate count_limit 0) p l m (omega (arith, m.filled.long, length-replicate {A = ℕ} count_limit 0))
      ∙ ap (table (λ k. k)) (length-replicate {A = ℕ} count_limit 0)

-- the chosen numbers written into a list from `to` on: p numbers were passed, and the next is written at `at`
pub record Choosing (f : ℕ → Bool) (n : ℕ) (l₀ : List ℕ) (to at p : ℕ) (l : List ℕ) : Type 0 where
  pub passed : p ≤ n
  pub ends : at + length (chosen_from f p (n - p)) ≤ count_limit
  pub same : sets l at (chosen_from f p (n - p)) ≡ sets l₀ to (chosen_from f 0 n)

module _ (f : ℕ → Bool) (n : ℕ) (l₀ : List ℕ) (to : ℕ) where
  pub choose_start : (l : List ℕ) → to + length (chosen_from f 0 n) ≤ count_limit → l ≡ l₀ → Choosing f n l₀ to to 0 l
  choose_start l h e = let x : n - 0 ≡ n = omega arith in record { passed = zero-le; ends = rw x h; same = rw (x, e) }

  module _ (at p : ℕ) (l : List ℕ) (i : Choosing f n l₀ to at p l) where
    pub choose_end : n ≤ p → l ≡ sets l₀ to (chosen_from f 0 n)
    choose_end h = rw (chosen_end f n p h) at i.same

    module _ (r : Bool) (h : p < n) (e : r ≡ f p) where
      pub choose_no : (at' : ℕ) (l' : List ℕ) → r ≡ false → at' ≡ at → l' ≡ l → Choosing f n l₀ to at' (p + 1) l'
      choose_no at' l' q x y =
          let k = chosen_no f n p r h e q in
          rw (x, y) (record { passed = omega arith; ends = omega (arith, i.ends, ap length k); same = rw k at i.same })

      pub choose_yes : (at' : ℕ) (l' : List ℕ) → r ≡ true → at' ≡ at + 1 → l' ≡ set l at p → Choosing f n l₀ to at' (p + 1) l'
      choose_yes at' l' q x y =
          let k = chosen_yes f n p r h e q in
          rw (x, y) (record { passed = omega arith; ends = omega (arith, i.ends, ap length k); same = rw (add-one at) (rw k at i.same) })

      pub choose_room : r ≡ true → at < count_limit
      choose_room q = omega (arith, i.ends, ap length (chosen_yes f n p r h e q))

pub ruleset chooses = (choose_start, choose_no, choose_yes, choose_room, choose_end)

-- the sources of all places: the old ones' own numbers, then the chosen ones
take_own : (n k : ℕ) → n ≤ k → take n (table (λ p. p) k) ≡ table (λ p. p) n
take_own n k h =
    let long = length-take-le n (table (λ p. p) k) (omega (arith, table_length {A = ℕ} (λ p. p) k)) in
    ext_get_or 0 (take n (table (λ p. p) k)) (table (λ p. p) n) (long ∙ sym (table_length (λ p. p) n))
    (λ q b. let c : q < n = omega (arith, long) in get_or-take n (table (λ p. p) k) q 0 c ∙ table_at (λ p. p) k q 0 (omega arith) ∙ sym (table_at (λ p. p) n q 0 c))

pub sources_front : (places wide : ℕ) (chosen r : List ℕ) → wide ≡ places + length chosen → wide ≤ count_limit → r ≡ sets (table (λ p. p) count_limit) places chosen → take wide r ≡ table (λ p. p) places ++ chosen
sources_front places wide chosen r w h e =
    let x : take places (table (λ p. p) count_limit) ≡ table (λ p. p) places = take_own places count_limit (omega arith) in
    let whole : r ≡ (table (λ p. p) places ++ chosen) ++ drop (places + length chosen) (table (λ p. p) count_limit) = e ∙ sets-eq chosen (table (λ p. p) count_limit) places (omega (arith, table_length {A = ℕ} (λ p. p) count_limit)) ∙ rw x in
    ap (take wide) whole
    ∙ take_at (table (λ p. p) places ++ chosen) (drop (places + length chosen) (table (λ p. p) count_limit)) wide (length-append (table (λ p. p) places) chosen ∙ omega (arith, table_length {A = ℕ} (λ p. p) places))

-- a list copied into a room from `to` on: what stands at p, and the rest, give the whole
pub record Copying (vs l₀ : List ℕ) (to p : ℕ) (l : List ℕ) : Type 0 where
  pub passed : p ≤ length vs
  pub long : length l ≡ length l₀
  pub same : sets l (to + p) (drop p vs) ≡ sets l₀ to vs

module _ (vs l₀ : List ℕ) (to : ℕ) where
  module _ (p : ℕ) (l : List ℕ) (f : Copying vs l₀ to p l) where
    pub copy_next : (i v : ℕ) → p < length vs → i ≡ to + p → v ≡ get_or vs p 0 → Copying vs l₀ to (p + 1) (set l i v)
    copy_next i v h ei ev =
        let q : to + (p + 1) ≡ suc (to + p) = omega arith in
        record { passed = omega arith; long = length-set l i v ∙ f.long; same = rw (q, ei, ev, add-one p) (rw (drop-cons vs p 0 h) at f.same) }

    pub copy_end : length vs ≤ p → l ≡ sets l₀ to vs
    copy_end h = rw (drop_of_length-le vs {i = p} h) at f.same

-- what each place has by its source, written so
module _ (g : ℕ → ℕ → ℕ) (sources l₀ : List ℕ) (to q : ℕ) (l : List ℕ) (f : Copying (map_at g sources) l₀ to q l) where
  pub map_next : (i v : ℕ) → q < length sources → i ≡ to + q → v ≡ g q (get_or sources q 0) → Copying (map_at g sources) l₀ to (q + 1) (set l i v)
  map_next i v h ei ev = copy_next (map_at g sources) l₀ to q l f i v (omega (arith, map_at_length g sources)) ei (ev ∙ sym (map_at_at g sources q 0 0 h))

  pub map_end : length sources ≤ q → l ≡ sets l₀ to (map_at g sources)
  map_end h = copy_end (map_at g sources) l₀ to q l f (omega (arith, map_at_length g sources))

pub map_whole : (g : ℕ → ℕ → ℕ) (sources l₀ : List ℕ) (q : ℕ) (l : List ℕ) → Copying (map_at g sources) l₀ 0 q l → length sources ≡ length l₀ → length sources ≤ q → l ≡ map_at g sources
map_whole g sources l₀ q l f e h = map_end g sources l₀ 0 q l f h ∙ sets_whole (map_at g sources) l₀ (map_at_length g sources ∙ e)

-- by the sources of all places: the old places' own, then those of the new ones
by_own : (h : Bool → ℕ → ℕ) (kept chosen : List ℕ) → ((p : ℕ) → p < length kept → h true p ≡ get_or kept p 0) → map_at (λ q p. h (ltb q (length kept)) p) (table (λ p. p) (length kept) ++ chosen) ≡ kept ++ map (h false) chosen
by_own h kept chosen same =
    ext_get_or 0 (map_at g all) (kept ++ map (h false) chosen) (map_at_length g all ∙ long ∙ sym (length-append kept (map (h false) chosen) ∙ ap (λ (k : ℕ). length kept + k) (length-map chosen (h false))))
    (λ q b. go q (omega (arith, map_at_length g all)) (dec_lt q (length kept)))
  where
    all : List ℕ
    all = table (λ p. p) (length kept) ++ chosen

    g : ℕ → ℕ → ℕ
    g q p = h (ltb q (length kept)) p

    own : length (table (λ p. p) (length kept)) ≡ length kept
    own = table_length (λ p. p) (length kept)

    long : length all ≡ length kept + length chosen
    long = length-append (table (λ p. p) (length kept)) chosen ∙ omega (arith, own)

    after : (j : ℕ) → j < length chosen → get_or (map_at g all) (length kept + j) 0 ≡ get_or (kept ++ map (h false) chosen) (length kept + j) 0
    after j b =
        map_at_at g all (length kept + j) 0 0 (omega (arith, long))
        ∙ rw (le-ltb (length kept + j) (length kept) (omega arith)) (ap (h false) (ap (λ (k : ℕ). get_or all (k + j) 0) (sym own) ∙ get_or-append-add (table (λ p. p) (length kept)) chosen j 0))
        ∙ sym (get_or-append-add kept (map (h false) chosen) j 0 ∙ map_at_lem (h false) chosen j b)

    go : (q : ℕ) → q < length all → Dec (q < length kept) → get_or (map_at g all) q 0 ≡ get_or (kept ++ map (h false) chosen) q 0
    go q b (yes l) =
        map_at_at g all q 0 0 b
        ∙ rw (lt-ltb q (length kept) l) (ap (h true) (get_or-append (table (λ p. p) (length kept)) chosen 0 q (omega (arith, own)) ∙ table_at (λ p. p) (length kept) q 0 l) ∙ same q l)
        ∙ sym (get_or-append kept (map (h false) chosen) 0 q l)
    go q b (no n) =
        let x : q ≡ length kept + (q - length kept) = omega arith in
        rw x (after (q - length kept) (omega (arith, long)))

pub by_sources : (h : Bool → ℕ → ℕ) (places : ℕ) (kept chosen : List ℕ) → length kept ≡ places → ((p : ℕ) → p < length kept → h true p ≡ get_or kept p 0) → map_at (λ q p. h (ltb q places) p) (table (λ p. p) places ++ chosen) ≡ kept ++ map (h false) chosen
by_sources h places kept chosen e same = rw (← e) (by_own h kept chosen same)

pub sets_then : (xs ys l l₁ l₂ : List ℕ) (to at : ℕ) → l₁ ≡ sets l to xs → at ≡ to + length xs → l₂ ≡ sets l₁ at ys → l₂ ≡ sets l to (xs ++ ys)
sets_then xs ys l l₁ l₂ to at e q k = k ∙ rw (e, q) (sets_both xs ys l to)

-- rows written one after the other: t of them are
pub record Rowing (f : ℕ → List ℕ) (wide : ℕ) (l₀ : List ℕ) (t : ℕ) (l : List ℕ) : Type 0 where
  pub same : l ≡ sets l₀ 0 (joined f t)
  pub filled : length (joined f t) ≡ t * wide

module _ (f : ℕ → List ℕ) (wide : ℕ) (l₀ : List ℕ) where
  pub rows_start : Rowing f wide l₀ 0 l₀
  unfolding joined
  rows_start = record { same = refl; filled = omega arith }

  module _ (t : ℕ) (l : List ℕ) (r : Rowing f wide l₀ t l) where
    pub rows_long : length l ≡ length l₀
    rows_long = ap length r.same ∙ length-sets l₀ 0 (joined f t)

    pub rows_next : (l' : List ℕ) → length (f t) ≡ wide → l' ≡ sets l (t * wide) (f t) → Rowing f wide l₀ (t + 1) l'
    unfolding joined
    rows_next l' w e =
        rw (add-one t)
        (record {
          same = sets_then (joined f t) (f t) l₀ l l' 0 (t * wide) r.same (omega (arith, r.filled)) e;
          filled = length-append (joined f t) (f t) ∙ omega (arith, r.filled, suc-mul t wide);
        })

    pub rows_end : (n : ℕ) → t ≡ n → length l₀ ≡ n * wide → l ≡ joined f n
    rows_end n q h = rw (← q) (r.same ∙ sets_whole (joined f t) l₀ (r.filled ∙ rw q (sym h)))

-- the same rows
pub joined_same : (f g : ℕ → List ℕ) (n : ℕ) → ((t : ℕ) → t < n → f t ≡ g t) → joined f n ≡ joined g n
unfolding joined
joined_same f g zero h = refl
joined_same f g (suc n) h = rw (joined_same f g n (λ t l. h t (omega arith)), h n (omega arith))

-- the length of a row with g of each chosen place behind it
pub row_then : (n t : ℕ) (kept chosen : List ℕ) (g : ℕ → ℕ) → t * n + n ≤ length kept → length (row n t kept ++ map g chosen) ≡ n + length chosen
row_then n t kept chosen g h = length-append (row n t kept) (map g chosen) ∙ omega (arith, row_length_lem n t kept h, length-map chosen g)
