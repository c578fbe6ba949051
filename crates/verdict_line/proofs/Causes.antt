-- One letter, one cause: where a replay stops, and why, is determined by net, marking and word. Assumes nothing.
use Prim.Native.Nat.{ℕ, ◌≤◌, ◌<◌}
use mathlib.Core.Path.{◌≡◌, ap}
use mathlib.Core.List.{List}
use native.Mathlib.Omega.{arith}
use native.Mathlib.Decide.{dec_lt}
use lib.ListN.{get_or, take}
use lib.Signed.{clash_ℤ}
use Rattle.net.specs.Net.{Net}
use Rattle.net.specs.Firing.{Fires, Names, LowestShort, LowestOver}
use Rattle.net.specs.declared.Cause.{Cause}
use Rattle.net.specs.declared.Cause.TheVariants.{Short, Over}
use Rattle.net.proofs.Meaning.{deterministic}
use Rattle.net.proofs.Judged.{named_stops}
use Rattle.replay.proofs.Ending.{no_more}
use Rattle.verdict_line.specs.Truth.{StopsAt}

module _ (net : Net) (m : List ℕ) (t : ℕ) where
  -- the lowest place of its kind is not above another
  short_least : (p q : ℕ) → LowestShort net m t p → LowestShort net m t q → p ≤ q
  short_least p q a b = go (dec_lt q p)
    where
      go : Dec (q < p) → p ≤ q
      go (yes h) = let c = a.lowest q h in let s = b.short in absurd (omega arith)
      go (no h) = omega arith

  over_least : (p q : ℕ) → LowestOver net m t p → LowestOver net m t q → p ≤ q
  over_least p q a b = go (dec_lt q p)
    where
      go : Dec (q < p) → p ≤ q
      go (yes h) = absurd (clash_ℤ b.over.1 (a.lowest q h b.over.0))
      go (no h) = omega arith

  -- short before over
  short_first : (p q : ℕ) → LowestShort net m t p → LowestOver net m t q → ⊥
  short_first p q a b = let c = b.covers p a.here in let s = a.short in omega arith

  pub one_cause : (why who : Cause) → Names net m t why → Names net m t who → why ≡ who
  one_cause (Short p) (Short q) a b = let h = short_least p q a b in let k = short_least q p b a in let e : p ≡ q = omega arith in ap Short e
  one_cause (Short p) (Over q) a b = absurd (short_first p q a b)
  one_cause (Over p) (Short q) a b = absurd (short_first q p b a)
  one_cause (Over p) (Over q) a b = let h = over_least p q a b in let k = over_least q p b a in let e : p ≡ q = omega arith in ap Over e

module _ (net : Net) (m w : List ℕ) (i j : ℕ) (why who : Cause) (a : StopsAt net m w i why) (b : StopsAt net m w j who) where
  -- the later of two stops would fire past the earlier
  same_letter : i ≡ j
  same_letter = go (dec_lt i j) (dec_lt j i)
    where
      go : Dec (i < j) → Dec (j < i) → i ≡ j
      go (yes h) d = absurd (no_more w i a.inside a.fires (named_stops net a.marking (get_or w i 0) why a.cause) j h b.marking b.fires)
      go (no h) (yes k) = absurd (no_more w j b.inside b.fires (named_stops net b.marking (get_or w j 0) who b.cause) i k a.marking a.fires)
      go (no h) (no k) = omega arith

  same_stop : (e : i ≡ j) → Fires net m (take j w) b.marking → Names net b.marking (get_or w j 0) who → why ≡ who
  same_stop e f c =
      let g : Fires net m (take i w) b.marking = rw e f in
      let h : Names net b.marking (get_or w i 0) who = rw e c in
      let d : Names net b.marking (get_or w i 0) why = rw (deterministic a.fires g) at a.cause in
      one_cause net b.marking (get_or w i 0) why who d h

  -- a word stops at one letter, for one cause
  pub one_stop : (i ≡ j) × (why ≡ who)
  one_stop = (same_letter, same_stop same_letter b.fires b.cause)
