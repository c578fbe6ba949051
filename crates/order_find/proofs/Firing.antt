-- A letter that passes, fired and taken back: place by place, within bounds, and as before. Assumes nothing.
use Prim.Native.Nat.{ℕ, ◌+◌, ◌*◌, ◌≤◌, ◌<◌, zero-le}
use mathlib.Core.Path.{◌≡◌, ◌∙◌}
use mathlib.Core.Bool.{true}
use mathlib.Core.List.{List}
use native.Mathlib.Omega.{arith}
use native.Mathlib.Decide.{dec_lt}
use lib.ListN.{length, get_or, get_or-eq_default}
use lib.Seq.{ext_get_or}
use Rattle.ground.specs.Limits.{weight_limit}
use Rattle.ground.proofs.Fill.{map_at_length, map_at_at}
use Rattle.net.specs.Net.{Net, Pre, Post, Light, Sized, tokens}
use Rattle.net.specs.Letter.{row, arcs_at, passes, after, fired_at, Small, Enough}
use Rattle.net.proofs.Rows.{row_at, row_length_lem, post_end}
use Rattle.net.proofs.Judged.{enabled_of}
use Rattle.order_find.specs.Walk.{taken_back}

module _ (net : Net) (t : ℕ) (m : List ℕ) (long : length m ≡ net.places) (e : passes (arcs_at net t) m ≡ true) where
  pub fired_long : length (fired_at net t m) ≡ length m
  fired_long = map_at_length (after (arcs_at net t).takes (arcs_at net t).puts) m

  -- nothing is lost below 0: what was taken was there
  pub fired_at_lem : (p : ℕ) → p < length m → tokens (fired_at net t m) p + Pre net p t ≡ tokens m p + Post net p t
  fired_at_lem p h =
      let l : p < net.places = omega arith in
      let a = map_at_at (after (arcs_at net t).takes (arcs_at net t).puts) m p 0 0 h in
      let x = row_at net.places t net.pre p l in
      let y = row_at net.places t net.post p l in
      let k = (enabled_of net m t long e).covers p l in
      omega arith

  pub fired_small : (b : ℕ) → Light net → Small b m → Small (b + weight_limit) (fired_at net t m)
  fired_small b light s = record { at = λ p. go p (dec_lt p (length m)) }
    where
      go : (p : ℕ) → Dec (p < length m) → get_or (fired_at net t m) p 0 ≤ b + weight_limit
      go p (yes h) = omega (arith, fired_at_lem p h, s.at p, light.post (t * net.places + p))
      go p (no n) = let q = fired_long in rw (get_or-eq_default (fired_at net t m) 0 {n = p} (omega arith)) zero-le

  -- what was put is there to be taken back
  pub put_there : Sized net → t < net.transitions → Enough (row net.places t net.post) (fired_at net t m)
  put_there sized h = record { at = λ p. go p (dec_lt p (length m)) }
    where
      go : (p : ℕ) → Dec (p < length m) → get_or (row net.places t net.post) p 0 ≤ get_or (fired_at net t m) p 0
      go p (yes l) =
          let b : p < net.places = omega arith in
          let k = (enabled_of net m t long e).covers p b in
          omega (arith, fired_at_lem p l, row_at net.places t net.post p b)
      go p (no n) =
          let q = row_length_lem net.places t net.post (post_end net m t sized h) in
          rw (get_or-eq_default (row net.places t net.post) 0 {n = p} (omega arith)) zero-le

  -- taken back, the marking is what it was
  pub back_again : taken_back net t (fired_at net t m) ≡ m
  back_again =
      ext_get_or 0 (taken_back net t (fired_at net t m)) m
      (map_at_length (after (arcs_at net t).puts (arcs_at net t).takes) (fired_at net t m) ∙ fired_long)
      (λ p h.
      let l : p < length m = rw (map_at_length (after (arcs_at net t).puts (arcs_at net t).takes) (fired_at net t m) ∙ fired_long) at h in
      let b : p < net.places = omega arith in
      let f : p < length (fired_at net t m) = rw fired_long l in
      let a = map_at_at (after (arcs_at net t).puts (arcs_at net t).takes) (fired_at net t m) p 0 0 f in
      let x = row_at net.places t net.pre p b in
      let y = row_at net.places t net.post p b in
      let k = (enabled_of net m t long e).covers p b in
      omega (arith, fired_at_lem p l))
