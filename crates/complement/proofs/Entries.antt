-- The complement net entry by entry: its lengths, its weights at the old and at the new places, its capacities. Assumes nothing.
use Prim.Native.Nat.{ℕ, zero, suc, ◌+◌, ◌-◌, ◌*◌, ◌≤◌, ◌<◌, zero-le}
use mathlib.Core.Path.{◌≡◌, sym, ap, ◌∙◌}
use mathlib.Core.List.{List, [], ◌∷◌, ◌++◌, map}
use mathlib.Core.Logic.{⊎_elim}
use native.Mathlib.Omega.{arith}
use native.Mathlib.Decide.{dec_lt}
use native.Mathlib.Nat.{suc-mul, not-suc-le-zero, le_of_suc-le-suc, eq-or-lt_of_le}
use lib.ListN.{length, get_or, drop, length-append, length-take, get_or-append, get_or-eq_default}
use lib.Seq.{get_or-append-add}
use Rattle.ground.specs.Limits.{no_capacity, weight_limit}
use Rattle.ground.proofs.Fill.{table_at}
use Rattle.net.specs.Net.{Net, Pre, Post, in_force, rise, capacity, Capped, mark, Light, Sized}
use Rattle.net.specs.Letter.{row, Small}
use Rattle.net.proofs.Rows.{row_end, row_at, row_length_lem}
use Rattle.net.proofs.Rule.{leaves_most}
use Rattle.complement.specs.Complement.{made_places, complement_places, fall, joined, pre_row, post_row, complement_net}
use Rattle.complement.proofs.Choice.{map_at_lem}
use Rattle.complement.proofs.Written.{row_then}

-- ---- lists one after the other
module _ (f : ℕ → List ℕ) (wide : ℕ) where
  joined_length : (n : ℕ) → ((t : ℕ) → t < n → length (f t) ≡ wide) → length (joined f n) ≡ n * wide
  unfolding joined
  joined_length zero each = omega arith
  joined_length (suc n) each =
      length-append (joined f n) (f n)
      ∙ omega (arith, joined_length n (λ t h. each t (omega arith)), each n (omega arith), suc-mul n wide)

  joined_at : (n : ℕ) → ((t : ℕ) → t < n → length (f t) ≡ wide) → (t q : ℕ) → t < n → q < wide → get_or (joined f n) (t * wide + q) 0 ≡ get_or (f t) q 0
  unfolding joined
  joined_at zero each t q h b = absurd (not-suc-le-zero h)
  joined_at (suc n) each t q h b =
      ⊎_elim last (λ l. before l (joined_at n (λ t h. each t (omega arith)) t q l b)) (eq-or-lt_of_le (le_of_suc-le-suc h))
    where
      long : length (joined f n) ≡ n * wide
      long = joined_length n (λ t h. each t (omega arith))

      last : t ≡ n → get_or (joined f n ++ f n) (t * wide + q) 0 ≡ get_or (f t) q 0
      last e = rw (e, ← long) (get_or-append-add (joined f n) (f n) q 0)

      before : t < n → get_or (joined f n) (t * wide + q) 0 ≡ get_or (f t) q 0 → get_or (joined f n ++ f n) (t * wide + q) 0 ≡ get_or (f t) q 0
      before l r = get_or-append (joined f n) (f n) 0 (t * wide + q) (omega (arith, long, row_end t n wide l)) ∙ r

-- no entry above b, in lists put together
module _ (b : ℕ) where
  both_small : (xs ys : List ℕ) → Small b xs → Small b ys → Small b (xs ++ ys)
  both_small xs ys x y = record { at = λ k. go k (dec_lt k (length xs)) }
    where
      after : (k : ℕ) → length xs ≤ k → get_or (xs ++ ys) k 0 ≤ b
      after k h =
          let q : k ≡ length xs + (k - length xs) = omega arith in
          rw q (rw (get_or-append-add xs ys (k - length xs) 0) (y.at (k - length xs)))

      go : (k : ℕ) → Dec (k < length xs) → get_or (xs ++ ys) k 0 ≤ b
      go k (yes h) = rw (get_or-append xs ys 0 k h) (x.at k)
      go k (no n) = after k (omega arith)

  map_small : (g : ℕ → ℕ) (l : List ℕ) → ((p : ℕ) → g p ≤ b) → Small b (map g l)
  map_small g [] h = record { at = λ k. zero-le }
  map_small g (x ∷ l) h = record { at = λ k. go k (map_small g l h) }
    where
      go : (k : ℕ) → Small b (map g l) → get_or (g x ∷ map g l) k 0 ≤ b
      go zero s = h x
      go (suc k) s = s.at k

  row_small : (n t : ℕ) (l : List ℕ) → Small b l → Small b (row n t l)
  row_small n t l s = record { at = λ k. go k (dec_lt k n) }
    where
      go : (k : ℕ) → Dec (k < n) → get_or (row n t l) k 0 ≤ b
      go k (yes h) = rw (row_at n t l k h) (s.at (t * n + k))
      go k (no h) = rw (get_or-eq_default (row n t l) 0 {n = k} (omega (arith, length-take n (drop (t * n) l)))) zero-le

  joined_small : (f : ℕ → List ℕ) (n : ℕ) → ((t : ℕ) → Small b (f t)) → Small b (joined f n)
  unfolding joined
  joined_small f zero h = record { at = λ k. zero-le }
  joined_small f (suc n) h = both_small (joined f n) (f n) (joined_small f n h) (h n)

-- ---- rows with the old places' entries and then f of each new place; `chosen` are the places that they stand for
abbrev long_row : ℕ → List ℕ → List ℕ → (ℕ → ℕ → ℕ) → ℕ → List ℕ
long_row places kept chosen f t = row places t kept ++ map (f t) chosen

module _ (places transitions : ℕ) (kept chosen : List ℕ) (f : ℕ → ℕ → ℕ) (long : length kept ≡ transitions * places) where
  kept_long : (t : ℕ) → t < transitions → length (row places t kept) ≡ places
  kept_long t h = row_length_lem places t kept (rw long (row_end t transitions places h))

  row_long : (t : ℕ) → t < transitions → length (long_row places kept chosen f t) ≡ places + length chosen
  row_long t h = row_then places t kept chosen (f t) (rw long (row_end t transitions places h))

  rows_long : length (joined (long_row places kept chosen f) transitions) ≡ transitions * (places + length chosen)
  rows_long = joined_length (long_row places kept chosen f) (places + length chosen) transitions row_long

  module _ (t : ℕ) (h : t < transitions) where
    old_at : (p : ℕ) → p < places → get_or (joined (long_row places kept chosen f) transitions) (t * (places + length chosen) + p) 0 ≡ get_or kept (t * places + p) 0
    old_at p b =
        joined_at (long_row places kept chosen f) (places + length chosen) transitions row_long t p h (omega arith)
        ∙ get_or-append (row places t kept) (map (f t) chosen) 0 p (omega (arith, kept_long t h))
        ∙ row_at places t kept p b

    new_at : (j : ℕ) → j < length chosen → get_or (joined (long_row places kept chosen f) transitions) (t * (places + length chosen) + (places + j)) 0 ≡ f t (get_or chosen j 0)
    new_at j b =
        joined_at (long_row places kept chosen f) (places + length chosen) transitions row_long t (places + j) h (omega arith)
        ∙ ap (λ (k : ℕ). get_or (long_row places kept chosen f t) (k + j) 0) (sym (kept_long t h))
        ∙ get_or-append-add (row places t kept) (map (f t) chosen) j 0
        ∙ map_at_lem (f t) chosen j b

-- ---- the complement net
module _ (net : Net) (sized : Sized net) where
  pub pre_long : length (complement_net net).pre ≡ net.transitions * complement_places net
  pre_long = rows_long net.places net.transitions net.pre (made_places net) (λ t p. rise net p t) sized.pres

  pub post_long : length (complement_net net).post ≡ net.transitions * complement_places net
  post_long = rows_long net.places net.transitions net.post (made_places net) (λ t p. fall net p t) sized.posts

  module _ (t : ℕ) (h : t < net.transitions) where
    pub pre_old : (p : ℕ) → p < net.places → Pre (complement_net net) p t ≡ Pre net p t
    pre_old p b = old_at net.places net.transitions net.pre (made_places net) (λ t p. rise net p t) sized.pres t h p b

    pub post_old : (p : ℕ) → p < net.places → Post (complement_net net) p t ≡ Post net p t
    post_old p b = old_at net.places net.transitions net.post (made_places net) (λ t p. fall net p t) sized.posts t h p b

    pub pre_new : (j : ℕ) → j < length (made_places net) → Pre (complement_net net) (net.places + j) t ≡ rise net (get_or (made_places net) j 0) t
    pre_new j b = new_at net.places net.transitions net.pre (made_places net) (λ t p. rise net p t) sized.pres t h j b

    pub post_new : (j : ℕ) → j < length (made_places net) → Post (complement_net net) (net.places + j) t ≡ fall net (get_or (made_places net) j 0) t
    post_new j b = new_at net.places net.transitions net.post (made_places net) (λ t p. fall net p t) sized.posts t h j b

-- the old place and its new place together keep their sum
pub arcs_even : (net : Net) (p t : ℕ) → fall net p t + Post net p t ≡ rise net p t + Pre net p t
arcs_even net p t = omega (arith, leaves_most (in_force (capacity net p) (mark net p)) (Pre net p t))

-- "No capacities remain."
pub never_capped : (net : Net) (p : ℕ) → p < complement_places net → Capped (complement_net net) p → ⊥
never_capped net p h c = omega (arith, table_at (λ p. no_capacity) (complement_places net) p 0 h)

-- no weight is above the limit, where none was
pub light_stays : (net : Net) → Light net → Light (complement_net net)
light_stays net l =
    record {
      pre = (joined_small weight_limit (pre_row net) net.transitions pre_row_lem).at;
      post = (joined_small weight_limit (post_row net) net.transitions post_row_lem).at;
    }
  where
    pre_row_lem : (t : ℕ) → Small weight_limit (pre_row net t)
    pre_row_lem t =
        both_small weight_limit _ _ (row_small weight_limit net.places t net.pre (record { at = l.pre }))
        (map_small weight_limit (λ p. rise net p t) (made_places net) (λ p. omega (arith, l.post (t * net.places + p))))

    post_row_lem : (t : ℕ) → Small weight_limit (post_row net t)
    post_row_lem t =
        both_small weight_limit _ _ (row_small weight_limit net.places t net.post (record { at = l.post }))
        (map_small weight_limit (λ p. fall net p t) (made_places net) (λ p. omega (arith, l.pre (t * net.places + p), arcs_even net p t)))
