-- The refusals that the questions share ask of the marks only that there is one for each place (document 02, E5). Assumes nothing.
use Prim.Native.Nat.{ℕ, ◌*◌}
use mathlib.Core.Path.{◌≡◌, refl, sym, ap}
use mathlib.Core.Bool.{Bool, not, ◌||◌, ◌&&◌}
use mathlib.Core.List.{List}
use lib.ListN.{length}
use lib.Dec.{eqb}
use Rattle.net.specs.Net.{Net}
use Rattle.net.specs.Marks.{remarked}
use Rattle.wiring.specs.Wired.{loose_place, loose_transition}
use Rattle.weights.specs.Heavy.{heavy}
use Rattle.refusals.specs.Given.{refuse, or_else, outside, unlike, weights_fault, counts_fault, loose_fault, net_fault, start_fault, marked_fault}

module _ (net : Net) (marks : List ℕ) (long : length marks ≡ length net.marks) where
  pub remarked_counts : (fits : Bool) → counts_fault net fits ≡ counts_fault (remarked net marks) fits
  unfolding counts_fault weights_fault heavy
  remarked_counts fits =
      ap
      (λ (n : ℕ).
      or_else (refuse (outside net.places || outside net.transitions) 1 0)
      (or_else (refuse
      ((unlike (length net.pre) (net.transitions * net.places)
      || (unlike (length net.post) (net.transitions * net.places) || (unlike (length net.caps) net.places || unlike n net.places)))
      || not fits)
      2
      0) (weights_fault net)))
      (sym long)

  pub remarked_loose : loose_fault net ≡ loose_fault (remarked net marks)
  unfolding loose_fault loose_place loose_transition
  remarked_loose = refl

  pub remarked_net : (fits : Bool) → net_fault net fits ≡ net_fault (remarked net marks) fits
  unfolding net_fault
  remarked_net fits = rw (remarked_counts fits, remarked_loose)

  pub remarked_start : (initial : List ℕ) (fits : Bool) → start_fault net initial fits ≡ start_fault (remarked net marks) initial fits
  unfolding start_fault
  remarked_start initial fits = rw (remarked_counts (eqb (length initial) net.places && fits))

  pub remarked_marked : (initial : List ℕ) (fits : Bool) → marked_fault net initial fits ≡ marked_fault (remarked net marks) initial fits
  unfolding marked_fault
  remarked_marked initial fits = rw (remarked_start initial fits, remarked_loose)
