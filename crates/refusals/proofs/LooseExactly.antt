-- 17: given exactly when the refusals before it are not and the net is not wired. Assumes nothing.
use Rattle.std.specs.Prelude.{Ok, Err}
use Rattle.refusals.specs.Given.{Fault, refusal}
use Prim.Native.Nat.{ℕ}
use mathlib.Core.Path.{◌≡◌, refl}
use mathlib.Core.Bool.{Bool, true}
use mathlib.Core.List.{List}
use mathlib.Core.Logic.{◌↔◌}
use native.Mathlib.Omega.{arith}
use Rattle.net.specs.Net.{Net}
use Rattle.wiring.specs.Wired.{Wired}
use Rattle.refusals.specs.Given.{or_else, counts_fault, loose_fault, net_fault, start_fault, marked_fault}
use Rattle.refusals.specs.First.{First, fails, holds, GivenAt, CountsFirst, LooseFirst, StartFirst}
use Rattle.refusals.proofs.Chains.{refused_one}
use Rattle.refusals.proofs.Refusals.{CountsMet, counts_met, met_counts, StartMet, start_met, met_start, loose_met}
use Rattle.refusals.proofs.Exactly.{reads_all, loose_reads, counts_reads, start_reads}

-- a refusal of 1, 2, 18 or 3 is no 17
counts_other : {net : Net} {Others Next : Type 0} {n at : ℕ} → n ≡ 17 → CountsFirst net Others n at Next → Next
counts_other e (fails miss g) = let z = g.number in absurd (omega arith)
counts_other e (holds c (fails miss g)) = let z = g.number in absurd (omega arith)
counts_other e (holds c (holds l (fails miss g))) = let z = g.number in absurd (omega arith)
counts_other e (holds c (holds l (holds w h))) = h

start_other : {net : Net} {initial : List ℕ} {Others Next : Type 0} {n at : ℕ} → n ≡ 17 → StartFirst net initial Others n at Next → Next
start_other e h = marking e (counts_other e h)
  where
    marking : {D Next : Type 0} {M : ℕ → Type 0} {c n at : ℕ} → n ≡ 17 → First D (GivenAt 3 M c n at) Next → Next
    marking e (fails miss g) = let z = g.number in absurd (omega arith)
    marking e (holds d next) = next

-- what comes before 17, and then 17: exactly where that finds nothing and a node hangs loose, which the position names
behind : (f : Fault) (net : Net) {Met : Type 0} → (f ≡ Ok tt → Met) → (Met → f ≡ Ok tt) → ((n at : ℕ) → f ≡ Err (refusal n at) → n ≡ 17 → ⊥) → (at : ℕ) → (or_else f (loose_fault net) ≡ Err (refusal 17 at)) ↔ (Met × LooseFirst net 17 at ⊥)
behind f net {Met} met of-met other at = (there f refl, λ h. rw (of-met h.0) (((reads_all (loose_reads net)).exactly 17 at).1 h.1))
  where
    there : (x : Fault) → f ≡ x → or_else f (loose_fault net) ≡ Err (refusal 17 at) → Met × LooseFirst net 17 at ⊥
    there (Ok _) e q = (met e, ((reads_all (loose_reads net)).exactly 17 at).0 (rw e at q))
    there (Err r) e q = absurd (other r.number r.at e (refused_one r.number r.at 17 at (rw e at q)).0)

-- "17 is given exactly when 1, 2, 18, 3 are not and the net is not wired", with the position that 02 says
pub wired_exactly : (net : Net) (initial : List ℕ) (fits : Bool) (at : ℕ) → (marked_fault net initial fits ≡ Err (refusal 17 at)) ↔ (StartMet net initial fits × LooseFirst net 17 at ⊥)
unfolding marked_fault
wired_exactly net initial fits =
    behind (start_fault net initial fits) net (start_met net initial fits) (met_start net initial fits)
    (λ n at e q. start_other q (((reads_all (start_reads net initial fits {Others = fits ≡ true} (λ h. h) (λ h. h))).exactly n at).0 e))

-- ... and for a net without a marking, when 1, 2 and 18 are not
pub wired_net_exactly : (net : Net) (fits : Bool) (at : ℕ) → (net_fault net fits ≡ Err (refusal 17 at)) ↔ (CountsMet net fits × LooseFirst net 17 at ⊥)
unfolding net_fault
wired_net_exactly net fits =
    behind (counts_fault net fits) net (counts_met net fits) (met_counts net fits)
    (λ n at e q. counts_other q (((reads_all (counts_reads net fits {Others = fits ≡ true} (λ h. h) (λ h. h))).exactly n at).0 e))

-- a net is wired, or 17 has a position for it
pub record LooseAt (net : Net) : Type 0 where
  pub at : ℕ
  pub loose : LooseFirst net 17 at ⊥

pub loose_somewhere : (net : Net) → (Wired net → ⊥) → LooseAt net
loose_somewhere net none = go (loose_fault net) refl
  where
    seventeen : {n at : ℕ} → LooseFirst net n at ⊥ → LooseFirst net 17 at ⊥
    seventeen (fails miss g) = fails miss (record { number = refl; here = g.here; fails = g.fails; lowest = g.lowest })
    seventeen (holds w (fails miss g)) =
        let h = g.told in
        holds w (fails miss (record { below = g.below; position = g.position; told = record { number = refl; here = h.here; fails = h.fails; lowest = h.lowest } }))
    seventeen (holds w (holds v z)) = absurd z

    go : (x : Fault) → loose_fault net ≡ x → LooseAt net
    go (Ok _) e = absurd (none (loose_met net e))
    go (Err r) e = record { at = r.at; loose = seventeen (((reads_all (loose_reads net)).exactly r.number r.at).0 e) }

-- where it has one, the net is not wired
loose_unwired : (net : Net) (at : ℕ) → LooseFirst net 17 at ⊥ → Wired net → ⊥
loose_unwired net at (fails miss g) w = miss w.places
loose_unwired net at (holds p (fails miss g)) w = miss w.transitions
loose_unwired net at (holds p (holds t z)) w = z

-- so 17 is given, whatever its position, exactly when 1, 2, 18, 3 are not and the net is not wired
pub unwired_exactly : (net : Net) (initial : List ℕ) (fits : Bool) → ((at : ℕ) × (marked_fault net initial fits ≡ Err (refusal 17 at))) ↔ (StartMet net initial fits × (Wired net → ⊥))
unwired_exactly net initial fits = (
  λ g. let h = (wired_exactly net initial fits g.0).0 g.1 in (h.0, loose_unwired net g.0 h.1),
  λ h. let l = loose_somewhere net h.1 in (l.at, (wired_exactly net initial fits l.at).1 (h.0, l.loose)),
)

-- ... and for a net without a marking, when 1, 2 and 18 are not
pub unwired_net_exactly : (net : Net) (fits : Bool) → ((at : ℕ) × (net_fault net fits ≡ Err (refusal 17 at))) ↔ (CountsMet net fits × (Wired net → ⊥))
unwired_net_exactly net fits = (
  λ g. let h = (wired_net_exactly net fits g.0).0 g.1 in (h.0, loose_unwired net g.0 h.1),
  λ h. let l = loose_somewhere net h.1 in (l.at, (wired_net_exactly net fits l.at).1 (h.0, l.loose)),
)
