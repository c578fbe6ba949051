-- Nothing is refused exactly where all that 01 asks holds, and a refusal is the first demand's that does not. Assumes nothing.
use Rattle.std.specs.Prelude.{Ok}
use Prim.Native.Nat.{ℕ}
use mathlib.Core.Path.{◌≡◌}
use mathlib.Core.List.{List}
use lib.ListN.{length}
use lib.Dec.{leb, eqb}
use lib.IntN.{ℤ}
use borrow.Author.Tests.{lt-leb, leb-false, eq-eqb, eqb-true}
use Rattle.net.specs.Net.{Net}
use Rattle.refusals.specs.Given.{refuse, or_else, marked_fault}
use Rattle.refusals.proofs.Chains.{or_sound, sound_or, refuse_sound, sound_refuse}
use Rattle.refusals.proofs.Refusals.{marked_met, met_marked}
use Rattle.refusals.proofs.Exactly.{Chain, reads_both, reads_test, reads_all, tells_test, marked_reads}
use Rattle.weighting_sums.specs.Tests.{all_zero}
use Rattle.weighting_bound.specs.Bound.{bound_fault}
use Rattle.weighting_bound.specs.Allowed.{BoundAllowed, BoundRefusal}
use Rattle.weighting_sums.proofs.Zero.{some_of, of_some}

module _ (net : Net) (initial : List ℕ) (y : List ℤ) (p : ℕ) where
  pub bound_allowed_of : bound_fault net initial y p ≡ Ok tt → BoundAllowed net initial y p
  bound_allowed_of e =
      let a = or_sound (marked_fault net initial (eqb (length y) net.places)) (or_else (refuse (all_zero y) 8 0) (refuse (leb net.places p) 13 0)) e in
      let b = or_sound (refuse (all_zero y) 8 0) (refuse (leb net.places p) 13 0) a.1 in
      let m = marked_met net initial (eqb (length y) net.places) a.0 in
      record {
        sized = m.sized;
        light = m.light;
        marked = m.marked;
        long = eqb-true (length y) net.places m.fitting;
        fine = m.fine;
        wired = m.wired;
        some = some_of y (refuse_sound (all_zero y) 8 0 b.0);
        below = leb-false net.places p (refuse_sound (leb net.places p) 13 0 b.1);
      }

  pub of_bound_allowed : BoundAllowed net initial y p → bound_fault net initial y p ≡ Ok tt
  of_bound_allowed a =
      sound_or (marked_fault net initial (eqb (length y) net.places)) (or_else (refuse (all_zero y) 8 0) (refuse (leb net.places p) 13 0))
      (met_marked net initial (eqb (length y) net.places) (record { sized = a.sized; light = a.light; marked = a.marked; fitting = eq-eqb (length y) net.places a.long; fine = a.fine; wired = a.wired }))
      (sound_or (refuse (all_zero y) 8 0) (refuse (leb net.places p) 13 0) (sound_refuse (all_zero y) 8 0 (of_some y a.some)) (sound_refuse (leb net.places p) 13 0 (lt-leb net.places p a.below)))

  pub bound_chain : Chain (bound_fault net initial y p) (BoundRefusal net initial y p)
  bound_chain =
      reads_all
      (reads_both (marked_reads net initial (eqb (length y) net.places) (eqb-true (length y) net.places) (eq-eqb (length y) net.places))
      (reads_both (reads_test (tells_test (all_zero y) 8 0 (some_of y) (of_some y)))
      (reads_test (tells_test (leb net.places p) 13 0 (leb-false net.places p) (lt-leb net.places p)))))
