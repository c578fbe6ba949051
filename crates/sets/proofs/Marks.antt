-- "siphons and traps don't change" (document 02, E5): no answer about a set depends on the marks, whatever they are. Assumes nothing.
use Rattle.std.specs.Prelude.{Ok}
use Rattle.refusals.specs.Given.{Answer, Fault, or_else}
use Prim.Native.Nat.{ℕ}
use mathlib.Core.Path.{◌≡◌, sym, ap, ◌∙◌}
use mathlib.Core.List.{List}
use lib.ListN.{length}
use lib.Dec.{eqb}
use Rattle.net.specs.Net.{Net}
use Rattle.net.specs.Marks.{remarked}
use Rattle.refusals.proofs.Marks.{remarked_net}
use Rattle.sets.specs.Answer.{escapes, turned, set_fault, judged_set, siphon_of, trap_of, set_numbers}
use Rattle.sets.specs.declared.SetAnswer.{SetAnswer}
use Rattle.sets.proofs.Numbers.{siphon_unique, trap_unique}

module _ (net : Net) (marks : List ℕ) (long : length marks ≡ length net.marks) (s : List ℕ) where
  same_fault : set_fault net s ≡ set_fault (remarked net marks) s
  unfolding set_fault
  same_fault = rw (remarked_net net marks long (eqb (length s) net.places))

  same_siphon : siphon_of net s ≡ siphon_of (remarked net marks) s
  unfolding escapes
  same_siphon = ap (λ (f : Fault). or_else f (Ok (judged_set net s))) same_fault

  same_trap : trap_of net s ≡ trap_of (remarked net marks) s
  unfolding escapes
  same_trap = ap (λ (f : Fault). or_else f (Ok (judged_set (turned net) s))) same_fault

  pub siphon_unmarked : (r r' : Answer SetAnswer) → set_numbers r ≡ set_numbers (siphon_of net s) → set_numbers r' ≡ set_numbers (siphon_of (remarked net marks) s) → r ≡ r'
  siphon_unmarked r r' p q = siphon_unique net s r r' p (q ∙ ap set_numbers (sym same_siphon))

  pub trap_unmarked : (r r' : Answer SetAnswer) → set_numbers r ≡ set_numbers (trap_of net s) → set_numbers r' ≡ set_numbers (trap_of (remarked net marks) s) → r ≡ r'
  trap_unmarked r r' p q = trap_unique net s r r' p (q ∙ ap set_numbers (sym same_trap))
