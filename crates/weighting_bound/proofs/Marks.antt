-- "weightings .. don't change" (document 02, E5): no bound depends on the marks, whatever they are. Assumes nothing.
use Rattle.std.specs.Prelude.{Ok}
use Rattle.refusals.specs.Given.{Answer, Fault, or_else}
use Prim.Native.Nat.{ℕ}
use mathlib.Core.Path.{◌≡◌, sym, ap, ◌∙◌}
use mathlib.Core.List.{List}
use lib.ListN.{length}
use lib.Dec.{eqb}
use lib.IntN.{ℤ}
use Rattle.net.specs.Net.{Net}
use Rattle.net.specs.Marks.{remarked}
use Rattle.refusals.proofs.Marks.{remarked_marked}
use Rattle.weighting_bound.specs.Bound.{bound_fault, found_bound, bound_of, bound_numbers}
use Rattle.weighting_bound.specs.declared.Bound.{Bound}
use Rattle.weighting_bound.proofs.Numbers.{bound_unique}

module _ (net : Net) (marks : List ℕ) (long : length marks ≡ length net.marks) (initial : List ℕ) (y : List ℤ) (place : ℕ) where
  same_fault : bound_fault net initial y place ≡ bound_fault (remarked net marks) initial y place
  same_fault = rw (remarked_marked net marks long initial (eqb (length y) net.places))

  same_bound : bound_of net initial y place ≡ bound_of (remarked net marks) initial y place
  unfolding found_bound
  same_bound = ap (λ (f : Fault). or_else f (Ok (found_bound net initial y place))) same_fault

  pub bound_unmarked : (r r' : Answer Bound) → bound_numbers r ≡ bound_numbers (bound_of net initial y place) → bound_numbers r' ≡ bound_numbers (bound_of (remarked net marks) initial y place) → r ≡ r'
  bound_unmarked r r' p q = bound_unique net initial y place r r' p (q ∙ ap bound_numbers (sym same_bound))
