-- Demand 2, from the promise: what is true of the net, over the published relation, where `siphon_set` or `trap_set` has answered so. Assumes nothing.
use Prim.Native.Nat.{ℕ}
use mathlib.Core.Path.{◌≡◌, sym, ◌∙◌}
use mathlib.Core.Logic.{◌↔◌}
use mathlib.Core.List.{List}
use Rattle.std.specs.Prelude.{Ok}
use Rattle.refusals.specs.Given.{Answer}
use Rattle.refusals.proofs.Exactly.{not_refused}
use Rattle.net.specs.Net.{Net}
use Rattle.net.specs.Firing.{Fires}
use Rattle.sets.specs.Sets.{Siphon, Trap, SiphonFails, TrapFails, Marked, Unmarked}
use Rattle.sets.specs.Allowed.{Allowed}
use Rattle.sets.specs.Answer.{siphon_of, trap_of, set_numbers}
use Rattle.sets.specs.declared.SetAnswer.{SetAnswer}
use Rattle.sets.specs.declared.SetAnswer.TheVariants.{Yes, No}
use Rattle.sets.proofs.Numbers.{numbers_apart}
use Rattle.sets.proofs.Meaning.{siphon_accepted, siphon_fails_at, trap_accepted, trap_fails_at, siphon_stays_empty, trap_stays_marked}
use Rattle.sets.proofs.Exactly.{siphon_answered_allowed, trap_answered_allowed}

module _ (net : Net) (s : List ℕ) (r : Answer SetAnswer) where
  module _ (promise : set_numbers r ≡ set_numbers (siphon_of net s)) where
    siphon_is : r ≡ siphon_of net s
    siphon_is = numbers_apart r (siphon_of net s) promise

    -- accepted if it meets its definition, and only then
    pub siphon_yes_exactly : (r ≡ Ok Yes) ↔ (Allowed net s × Siphon net s)
    siphon_yes_exactly = (there, λ h. siphon_is ∙ (siphon_accepted net s h.0).1 h.1)
      where
        there : r ≡ Ok Yes → Allowed net s × Siphon net s
        there e = let ok = siphon_answered_allowed net s r promise (λ n at q. not_refused Yes n at (sym e ∙ q)) in (ok, (siphon_accepted net s ok).0 (sym siphon_is ∙ e))

    pub siphon_no_exactly : (t : ℕ) → (r ≡ Ok (No t)) ↔ (Allowed net s × SiphonFails net s t)
    siphon_no_exactly t = (there, λ h. siphon_is ∙ (siphon_fails_at net s h.0 t).1 h.1)
      where
        there : r ≡ Ok (No t) → Allowed net s × SiphonFails net s t
        there e = let ok = siphon_answered_allowed net s r promise (λ n at q. not_refused (No t) n at (sym e ∙ q)) in (ok, (siphon_fails_at net s ok t).0 (sym siphon_is ∙ e))

    -- an empty accepted siphon stays empty
    pub accepted_stays_empty : r ≡ Ok Yes → (m w m' : List ℕ) → Fires net m w m' → Unmarked net s m → Unmarked net s m'
    accepted_stays_empty e m w m' f u = siphon_stays_empty (siphon_yes_exactly.0 e).1 f u

  module _ (promise : set_numbers r ≡ set_numbers (trap_of net s)) where
    trap_is : r ≡ trap_of net s
    trap_is = numbers_apart r (trap_of net s) promise

    pub trap_yes_exactly : (r ≡ Ok Yes) ↔ (Allowed net s × Trap net s)
    trap_yes_exactly = (there, λ h. trap_is ∙ (trap_accepted net s h.0).1 h.1)
      where
        there : r ≡ Ok Yes → Allowed net s × Trap net s
        there e = let ok = trap_answered_allowed net s r promise (λ n at q. not_refused Yes n at (sym e ∙ q)) in (ok, (trap_accepted net s ok).0 (sym trap_is ∙ e))

    pub trap_no_exactly : (t : ℕ) → (r ≡ Ok (No t)) ↔ (Allowed net s × TrapFails net s t)
    trap_no_exactly t = (there, λ h. trap_is ∙ (trap_fails_at net s h.0 t).1 h.1)
      where
        there : r ≡ Ok (No t) → Allowed net s × TrapFails net s t
        there e = let ok = trap_answered_allowed net s r promise (λ n at q. not_refused (No t) n at (sym e ∙ q)) in (ok, (trap_fails_at net s ok t).0 (sym trap_is ∙ e))

    -- a marked accepted trap stays marked
    pub accepted_stays_marked : r ≡ Ok Yes → (m w m' : List ℕ) → Fires net m w m' → Marked net s m → Marked net s m'
    accepted_stays_marked e m w m' f u = trap_stays_marked (trap_yes_exactly.0 e).1 f u
