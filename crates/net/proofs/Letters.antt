-- Laws of one letter judged: what the passes over the places tell. Assumes nothing.
use Prim.Native.Nat.{ℕ, ◌≤◌, ◌<◌, zero-le}
use mathlib.Core.Path.{◌≡◌, sym, ap, ◌∙◌}
use mathlib.Core.Bool.{Bool, true, false, ◌||◌}
use mathlib.Core.List.{List}
use native.Mathlib.Omega.{arith}
use native.Mathlib.Decide.{dec_lt}
use lib.ListN.{length, get_or, get_or-eq_default}
use borrow.Author.Tests.{lt-ltb, le-ltb, ltb-false, eqb-true}
use Rattle.ground.specs.Lists.{bit, tally}
use Rattle.ground.proofs.Tests.{or-false}
use Rattle.ground.proofs.Scan.{Below, none_of}
use Rattle.ground.proofs.Fill.{Filled, fill_here}
use Rattle.net.specs.Letter.{Arcs, short_at, over_at, stops, lowest_short, lowest_over, cause, passes, fired, Small, Enough, Played}
use Rattle.net.specs.declared.Cause.{Cause}
use Rattle.net.specs.declared.Cause.TheVariants.{Short, Over}
use Rattle.std.specs.Prelude.{Some, None, Ok, Err}
use Rattle.ground.specs.Lists.{found}
use Rattle.ground.proofs.Scan.{found_first, found_none}

-- one place's number: s and o are the two tests' answers
module _ (s o : Bool) (takes puts cap mark tokens : ℕ) (es : s ≡ short_at takes tokens) where
  pub stop_short : s ≡ true → ◌≡◌ {A = ℕ} 1 (bit (short_at takes tokens || over_at takes puts cap mark tokens))
  stop_short h = rw (sym es ∙ h)

  pub stop_over : s ≡ false → o ≡ over_at takes puts cap mark tokens → o ≡ true → ◌≡◌ {A = ℕ} 1 (bit (short_at takes tokens || over_at takes puts cap mark tokens))
  stop_over h eo l = rw (sym es ∙ h, sym eo ∙ l)

  pub stop_none : s ≡ false → o ≡ over_at takes puts cap mark tokens → o ≡ false → ◌≡◌ {A = ℕ} 0 (bit (short_at takes tokens || over_at takes puts cap mark tokens))
  stop_none h eo l = rw (sym es ∙ h, sym eo ∙ l)

pub ruleset place_stops = (stop_short, stop_over, stop_none)

pub small_at : (b : ℕ) (m : List ℕ) (p : ℕ) → Small b m → get_or m p 0 ≤ b
small_at b m p h = h.at p

-- the entry that a firing has come to
module _ (g : ℕ → ℕ → ℕ) (m₀ : List ℕ) (i : ℕ) (m : List ℕ) (f : Filled 0 g m₀ i m) where
  pub fill_small : (b : ℕ) → Small b m₀ → get_or m i 0 ≤ b
  fill_small b h = rw (fill_here 0 g m₀ i m f) (h.at i)

  pub fill_enough : (takes : List ℕ) → Enough takes m₀ → get_or takes i 0 ≤ get_or m i 0
  fill_enough takes h = rw (fill_here 0 g m₀ i m f) (h.at i)

-- the cause, from the two scans
module _ (arcs : Arcs) (m : List ℕ) where
  pub cause_short : (s : ℕ) → Some s ≡ found (length m) (lowest_short arcs.takes m) → Short s ≡ cause arcs m
  cause_short s e = let q = found_first (length m) (lowest_short arcs.takes m) s e in rw (q.0, lt-ltb _ (length m) q.1)

  pub cause_over : (o : ℕ) → None ≡ found (length m) (lowest_short arcs.takes m) → o ≡ lowest_over arcs m → Over o ≡ cause arcs m
  cause_over o h eo = rw (le-ltb _ (length m) (found_none (length m) (lowest_short arcs.takes m) h), ← eo)

-- no place stops a letter that passes
pub none_stops : (arcs : Arcs) (m : List ℕ) → passes arcs m ≡ true → Below (stops arcs m) (length m)
none_stops arcs m e = none_of (stops arcs m) (length m) (eqb-true (tally (stops arcs m) (length m)) 0 e)

pub enough_of : (arcs : Arcs) (m : List ℕ) (r : Bool) → length arcs.takes ≡ length m → r ≡ passes arcs m → r ≡ true → Enough arcs.takes m
enough_of arcs m r long e h = record { at = λ p. go p (dec_lt p (length m)) }
  where
    go : (p : ℕ) → Dec (p < length m) → get_or arcs.takes p 0 ≤ get_or m p 0
    go p (yes l) = ltb-false (get_or m p 0) (get_or arcs.takes p 0) (or-false _ _ ((none_stops arcs m (sym e ∙ h)).none p l)).0
    go p (no n) = rw (get_or-eq_default arcs.takes 0 {n = p} (omega arith)) zero-le

module _ (arcs : Arcs) (m : List ℕ) (r : Bool) (e : r ≡ passes arcs m) where
  pub played_passes : (m' : List ℕ) → r ≡ true → m' ≡ fired arcs.takes arcs.puts m → Played arcs m (Ok tt) m'
  played_passes m' h q = record { answer = rw (sym e ∙ h); left = rw (sym e ∙ h) q }

  pub played_stops : (c : Cause) → r ≡ false → c ≡ cause arcs m → Played arcs m (Err c) m
  played_stops c h q = record { answer = rw (sym e ∙ h) (ap Err q); left = rw (sym e ∙ h) }

pub ruleset plays = (played_passes, played_stops)
