-- Nothing is refused exactly where all that 01 asks holds, and a refusal is the first demand's that does not. Assumes nothing.
use Rattle.std.specs.Prelude.{Ok}
use Prim.Native.Nat.{ℕ, ◌≤◌, ◌<◌}
use mathlib.Core.Path.{◌≡◌, sym, ◌∙◌}
use mathlib.Core.Bool.{false}
use mathlib.Core.List.{List}
use native.Mathlib.Omega.{arith}
use native.Mathlib.Decide.{dec_lt}
use lib.ListN.{length, get_or, get_or-eq_default}
use lib.Dec.{ltb, eqb}
use borrow.Author.Tests.{lt-ltb, ltb-true, lt-leb, leb-false, eq-eqb, eqb-true}
use Rattle.ground.proofs.Tests.{never}
use Rattle.ground.proofs.Scan.{first_below, first_passes}
use Rattle.net.specs.Net.{Net}
use Rattle.refusals.specs.Given.{refuse, net_fault}
use Rattle.refusals.proofs.Chains.{or_sound, sound_or, refuse_sound, sound_refuse}
use Rattle.refusals.proofs.Refusals.{net_met, met_net}
use Rattle.refusals.proofs.Exactly.{Chain, reads_both, reads_test, reads_all, tells_test, net_reads}
use Rattle.sets.specs.Sets.{In}
use Rattle.sets.specs.Allowed.{SomePlace, Allowed, Refusal}
use Rattle.sets.specs.Answer.{lowest_member, no_places, set_fault}

-- a place is in the set exactly where one is found
module _ (s : List ℕ) where
  some_of : no_places s ≡ false → SomePlace s
  some_of e h =
      let l = leb-false (length s) (lowest_member s) e in
      h _ (ltb-true _ _ (first_passes (λ p. ltb 0 (get_or s p 0)) (length s) l))

  of_some : SomePlace s → no_places s ≡ false
  of_some some = go (dec_lt (lowest_member s) (length s))
    where
      out : length s ≤ lowest_member s → (p : ℕ) → Dec (p < length s) → In s p → ⊥
      out h p (yes l) i = never (sym (lt-ltb 0 (get_or s p 0) i) ∙ first_below (λ p. ltb 0 (get_or s p 0)) (length s) p (omega arith))
      out h p (no l) i = omega (arith, get_or-eq_default s 0 {n = p} (omega arith))

      go : Dec (lowest_member s < length s) → no_places s ≡ false
      go (yes h) = lt-leb (length s) (lowest_member s) h
      go (no h) = absurd (some (λ p. out (omega arith) p (dec_lt p (length s))))

module _ (net : Net) (s : List ℕ) where
  pub allowed_of : set_fault net s ≡ Ok tt → Allowed net s
  unfolding set_fault
  allowed_of e =
      let a = or_sound (net_fault net (eqb (length s) net.places)) (refuse (no_places s) 8 0) e in
      let m = net_met net (eqb (length s) net.places) a.0 in
      record { sized = m.sized; light = m.light; long = eqb-true (length s) net.places m.fitting; wired = m.wired; some = some_of s (refuse_sound (no_places s) 8 0 a.1) }

  pub of_allowed : Allowed net s → set_fault net s ≡ Ok tt
  unfolding set_fault
  of_allowed a =
      sound_or (net_fault net (eqb (length s) net.places)) (refuse (no_places s) 8 0)
      (met_net net (eqb (length s) net.places) (record { sized = a.sized; light = a.light; fitting = eq-eqb (length s) net.places a.long; wired = a.wired }))
      (sound_refuse (no_places s) 8 0 (of_some s a.some))

  pub set_chain : Chain (set_fault net s) (Refusal net s)
  unfolding set_fault
  set_chain =
      reads_all
      (reads_both (net_reads net (eqb (length s) net.places) (eqb-true (length s) net.places) (eq-eqb (length s) net.places))
      (reads_test (tells_test (no_places s) 8 0 (some_of s) (of_some s))))
