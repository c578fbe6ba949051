-- Laws of weights over a limit: what a pass over a row has found, and that no transition is found exactly where the net is light. Assumes nothing.
use Prim.Native.Nat.{ℕ, ◌+◌, ◌*◌, ◌/◌, ◌%◌, ◌≤◌, ◌<◌, zero-le}
use mathlib.Core.Path.{◌≡◌}
use mathlib.Core.Bool.{Bool, false, ◌||◌}
use mathlib.Core.List.{List}
use native.Mathlib.Omega.{arith}
use native.Mathlib.Decide.{dec_lt}
use native.Mathlib.Nat.{mod-lt, div-add-mod', div-lt_iff_lt-mul}
use lib.ListN.{length, get_or, get_or-eq_default}
use lib.Dec.{ltb}
use borrow.Author.Tests.{lt-ltb, le-ltb, ltb-false}
use Rattle.ground.specs.Limits.{count_limit, weight_limit}
use Rattle.ground.specs.Lists.{bit, tally}
use Rattle.ground.proofs.Tests.{or-false, both_false}
use Rattle.ground.proofs.Scan.{Below, first_none, first_below, tally_none, none_of, tally_alike}
use Rattle.net.specs.Net.{Net, Pre, Post, Light, Sized}
use Rattle.net.specs.Letter.{row}
use Rattle.net.proofs.Rows.{row_length_lem, row_at, pre_end, post_end}
use Rattle.weights.specs.Heavy.{LightAt, over_at, row_over, heavy, lowest_heavy}

-- one place, by the two tests in turn
module _ (limit takes puts : ℕ) where
  pub over_taken : limit < takes → 1 ≡ bit (ltb limit takes || ltb limit puts)
  over_taken h = rw (lt-ltb limit takes h)

  pub over_put : takes ≤ limit → limit < puts → 1 ≡ bit (ltb limit takes || ltb limit puts)
  over_put h l = rw (le-ltb limit takes h, lt-ltb limit puts l)

  pub over_none : takes ≤ limit → puts ≤ limit → 0 ≡ bit (ltb limit takes || ltb limit puts)
  over_none h l = rw (le-ltb limit takes h, le-ltb limit puts l)

-- the pass over a row has come to its end
pub row_told : (limit : ℕ) (takes puts : List ℕ) (i n : ℕ) → n ≡ tally (over_at limit takes puts) i → i ≤ length takes → length takes ≤ i → ltb 0 n ≡ row_over limit takes puts
unfolding row_over
row_told limit takes puts i n e h l = let z : i ≡ length takes = omega arith in rw (e, z)

-- some number below n passes a test, or none does
none_passes : (f : ℕ → Bool) (n : ℕ) → ltb 0 (tally f n) ≡ false → Below f n
none_passes f n e = none_of f n (omega (arith, ltb-false 0 (tally f n) e))

passes_none : (f : ℕ → Bool) (n : ℕ) → Below f n → ltb 0 (tally f n) ≡ false
passes_none f n b = let z = tally_none f n b in le-ltb 0 (tally f n) (omega arith)

-- a row has no weight over the limit exactly if each of its places has none
module _ (limit : ℕ) (takes puts : List ℕ) where
  pub row_light : row_over limit takes puts ≡ false → (p : ℕ) → p < length takes → (get_or takes p 0 ≤ limit) × (get_or puts p 0 ≤ limit)
  unfolding row_over
  row_light e p h =
      let o = or-false (ltb limit (get_or takes p 0)) (ltb limit (get_or puts p 0)) ((none_passes (over_at limit takes puts) (length takes) e).none p h) in
      (ltb-false limit _ o.0, ltb-false limit _ o.1)

  pub light_row : ((p : ℕ) → p < length takes → (get_or takes p 0 ≤ limit) × (get_or puts p 0 ≤ limit)) → row_over limit takes puts ≡ false
  unfolding row_over
  light_row each =
      passes_none (over_at limit takes puts) (length takes)
      (record { none = λ p h. both_false (ltb limit (get_or takes p 0)) (ltb limit (get_or puts p 0)) (le-ltb limit (get_or takes p 0) (each p h).0) (le-ltb limit (get_or puts p 0) (each p h).1) })

-- a transition is light exactly if it is not heavy
module _ (net : Net) (t : ℕ) where
  pub light_at : heavy net t ≡ false → LightAt net t
  unfolding heavy
  light_at e = record { pre = λ p h. ltb-false weight_limit _ (each p h).0; post = λ p h. ltb-false weight_limit _ (each p h).1 }
    where
      each : (p : ℕ) → p < net.places → (ltb weight_limit (Pre net p t) ≡ false) × (ltb weight_limit (Post net p t) ≡ false)
      each p h =
          or-false (ltb weight_limit (Pre net p t)) (ltb weight_limit (Post net p t))
          ((none_passes (λ p. ltb weight_limit (Pre net p t) || ltb weight_limit (Post net p t)) net.places e).none p h)

  pub at_light : LightAt net t → heavy net t ≡ false
  unfolding heavy
  at_light a =
      passes_none (λ p. ltb weight_limit (Pre net p t) || ltb weight_limit (Post net p t)) net.places
      (record { none = λ p h. both_false (ltb weight_limit (Pre net p t)) (ltb weight_limit (Post net p t)) (le-ltb weight_limit _ (a.pre p h)) (le-ltb weight_limit _ (a.post p h)) })

-- the test of a transition is that of its rows
module _ (net : Net) (t : ℕ) (sized : Sized net) (h : t < net.transitions) where
  long : length (row net.places t net.pre) ≡ net.places
  long = row_length_lem net.places t net.pre (pre_end net net.caps t sized h)

  -- each of the two rows has an entry for each place, and these are not too many for a pass
  pub rows_long : (length (row net.places t net.pre) ≡ net.places) × ((length (row net.places t net.post) ≡ net.places) × (net.places ≤ count_limit))
  rows_long = (long, (row_length_lem net.places t net.post (post_end net net.caps t sized h), sized.few_places))

  pub rows_heavy : row_over weight_limit (row net.places t net.pre) (row net.places t net.post) ≡ heavy net t
  unfolding row_over heavy
  rows_heavy =
      rw (
        long,
        tally_alike (over_at weight_limit (row net.places t net.pre) (row net.places t net.post))
            (λ p. ltb weight_limit (Pre net p t) || ltb weight_limit (Post net p t)) net.places
            (λ p l. rw (row_at net.places t net.pre p l, row_at net.places t net.post p l)),
      )

-- an entry of a table with T rows of P entries is one of a row
entry_row : (P T k : ℕ) → 1 ≤ P → k < T * P → (k / P < T) × ((k % P < P) × (k / P * P + k % P ≡ k))
entry_row P T k h l = ((div-lt_iff_lt-mul h).1 l, (mod-lt k h, div-add-mod' k P))

-- each transition of a light net is light
pub light_each : (net : Net) → Light net → (t : ℕ) → LightAt net t
light_each net l t = record { pre = λ p h. l.pre (t * net.places + p); post = λ p h. l.post (t * net.places + p) }

-- no transition is found exactly where the net is light
pub light_of : (net : Net) → Sized net → lowest_heavy net ≡ net.transitions → Light net
light_of net sized e = record { pre = λ k. pres k (dec_lt k (net.transitions * net.places)); post = λ k. posts k (dec_lt k (net.transitions * net.places)) }
  where
    each : (t : ℕ) → t < net.transitions → LightAt net t
    each t h = light_at net t (first_below (heavy net) net.transitions t (omega arith))

    pres : (k : ℕ) → Dec (k < net.transitions * net.places) → get_or net.pre k 0 ≤ weight_limit
    pres k (yes h) =
        let r = entry_row net.places net.transitions k sized.some_places h in
        rw r.1.1 at ((each (k / net.places) r.0).pre (k % net.places) r.1.0)
    pres k (no n) = rw (get_or-eq_default net.pre 0 {n = k} (omega (arith, sized.pres))) zero-le

    posts : (k : ℕ) → Dec (k < net.transitions * net.places) → get_or net.post k 0 ≤ weight_limit
    posts k (yes h) =
        let r = entry_row net.places net.transitions k sized.some_places h in
        rw r.1.1 at ((each (k / net.places) r.0).post (k % net.places) r.1.0)
    posts k (no n) = rw (get_or-eq_default net.post 0 {n = k} (omega (arith, sized.posts))) zero-le

pub of_light : (net : Net) → Sized net → Light net → lowest_heavy net ≡ net.transitions
of_light net sized l = first_none (heavy net) net.transitions (λ t h. at_light net t (light_each net l t))
