-- Laws of the tests for sets, and of a net with its arcs turned round. Assumes nothing.
use Prim.Native.Nat.{ℕ, ◌+◌, ◌*◌, ◌≤◌, ◌<◌}
use mathlib.Core.Path.{◌≡◌, sym, ap}
use mathlib.Core.Bool.{Bool, true, false}
use mathlib.Core.List.{List}
use native.Mathlib.Decide.{dec_lt}
use native.Mathlib.Omega.{arith}
use lib.ListN.{length, get_or, get_or-eq_default}
use lib.Dec.{ltb}
use borrow.Author.Tests.{lt-ltb, le-ltb}
use Rattle.ground.specs.Lists.{first}
use Rattle.ground.proofs.Scan.{Below, scan_hit, scan_end}
use Rattle.net.specs.Net.{Net, Sized}
use Rattle.net.specs.Letter.{row}
use Rattle.net.proofs.Rows.{row_at}
use Rattle.sets.specs.Answer.{meets, touches, turned}

-- a row: p is where the scan is, r the test's answer there
module _ (weight : ℕ → ℕ) (s : List ℕ) (p : ℕ) (lo : Below (λ p. meets (weight p) (get_or s p 0)) p) where
  pub touch_hit : (r : Bool) → r ≡ meets (weight p) (get_or s p 0) → r ≡ true → p < length s → true ≡ touches s weight
  unfolding touches
  touch_hit r e q h =
      let f = scan_hit (λ p. meets (weight p) (get_or s p 0)) (length s) p r lo e q h in
      rw (← f) (sym (lt-ltb p (length s) h))

  pub touch_none : p ≤ length s → length s ≤ p → false ≡ touches s weight
  unfolding touches
  touch_none h l =
      let f = scan_end (λ p. meets (weight p) (get_or s p 0)) (length s) p lo h l in
      rw (← f) (sym (le-ltb p (length s) l))

pub ruleset touching = (touch_hit, touch_none)

-- a transition's row touches the set as its weights in the table do: behind the places there is no member
pub row_touches : (n t : ℕ) (l s : List ℕ) → length s ≡ n → touches s (λ p. get_or (row n t l) p 0) ≡ touches s (λ p. get_or l (t * n + p) 0)
unfolding touches
row_touches n t l s e = ap (λ (f : ℕ → Bool). ltb (first f (length s)) (length s)) (λ j p. same p (dec_lt p n) j)
  where
    same : (p : ℕ) → Dec (p < n) → meets (get_or (row n t l) p 0) (get_or s p 0) ≡ meets (get_or l (t * n + p) 0) (get_or s p 0)
    same p (yes h) = rw (row_at n t l p h)
    same p (no h) = rw (get_or-eq_default s 0 {n = p} (omega (arith, e)))

-- a net stays sized with its arcs turned round
pub turned_sized : (net : Net) → Sized net → Sized (turned net)
turned_sized net z =
    record {
      some_places = z.some_places;
      few_places = z.few_places;
      some_transitions = z.some_transitions;
      few_transitions = z.few_transitions;
      pres = z.posts;
      posts = z.pres;
      capped = z.capped;
      noted = z.noted;
    }
