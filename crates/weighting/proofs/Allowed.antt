-- Nothing is refused exactly where all that 01 asks holds, and a refusal is the first demand's that does not. Assumes nothing.
use Rattle.std.specs.Prelude.{Ok}
use Prim.Native.Nat.{ℕ}
use mathlib.Core.Path.{◌≡◌}
use mathlib.Core.List.{List}
use lib.ListN.{length}
use lib.Dec.{eqb}
use lib.IntN.{ℤ}
use borrow.Author.Tests.{eq-eqb, eqb-true}
use Rattle.net.specs.Net.{Net}
use Rattle.refusals.specs.Given.{refuse, net_fault}
use Rattle.refusals.proofs.Chains.{or_sound, sound_or, refuse_sound, sound_refuse}
use Rattle.refusals.proofs.Refusals.{net_met, met_net}
use Rattle.refusals.proofs.Exactly.{Chain, reads_both, reads_test, reads_all, tells_test, net_reads}
use Rattle.weighting_sums.specs.Tests.{all_zero}
use Rattle.weighting.specs.Tests.{weighting_fault}
use Rattle.weighting.specs.Allowed.{Allowed, Refusal}
use Rattle.weighting_sums.proofs.Zero.{some_of, of_some}

module _ (net : Net) (n : ℕ) (y : List ℤ) where
  pub allowed_of : weighting_fault net n y ≡ Ok tt → Allowed net n y
  allowed_of e =
      let a = or_sound (net_fault net (eqb (length y) n)) (refuse (all_zero y) 8 0) e in
      let m = net_met net (eqb (length y) n) a.0 in
      record { sized = m.sized; light = m.light; long = eqb-true (length y) n m.fitting; wired = m.wired; some = some_of y (refuse_sound (all_zero y) 8 0 a.1) }

  pub of_allowed : Allowed net n y → weighting_fault net n y ≡ Ok tt
  of_allowed a =
      sound_or (net_fault net (eqb (length y) n)) (refuse (all_zero y) 8 0)
      (met_net net (eqb (length y) n) (record { sized = a.sized; light = a.light; fitting = eq-eqb (length y) n a.long; wired = a.wired }))
      (sound_refuse (all_zero y) 8 0 (of_some y a.some))

  pub weighting_chain : Chain (weighting_fault net n y) (Refusal net n y)
  weighting_chain =
      reads_all
      (reads_both (net_reads net (eqb (length y) n) (eqb-true (length y) n) (eq-eqb (length y) n))
      (reads_test (tells_test (all_zero y) 8 0 (some_of y) (of_some y))))
