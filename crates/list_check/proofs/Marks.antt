-- The refusals of a list ask of the marks only that there is one for each place (document 02, E5). Assumes nothing.
use Rattle.refusals.specs.Given.{Fault}
use Prim.Native.Nat.{ℕ}
use mathlib.Core.Path.{◌≡◌}
use mathlib.Core.Bool.{Bool, ◌&&◌}
use mathlib.Core.List.{List}
use lib.ListN.{length}
use Rattle.net.specs.Net.{Net}
use Rattle.net.specs.Marks.{remarked}
use Rattle.refusals.proofs.Marks.{remarked_start, remarked_loose}
use Rattle.lists.specs.declared.Kind.{Kind}
use Rattle.list_pairs.specs.Look.{looked}
use Rattle.list_refusals.specs.Given.{whole}
use Rattle.list_check.specs.Given.{given_fault, list_of}

module _ (kind : Kind) (net : Net) (marks : List ℕ) (long : length marks ≡ length net.marks) where
  remarked_given : (initial list : List ℕ) (fits : Bool) (next : Fault) → given_fault kind net initial list fits next ≡ given_fault kind (remarked net marks) initial list fits next
  unfolding given_fault
  remarked_given initial list fits next = rw (remarked_start net marks long initial (whole net.places list && fits), remarked_loose net marks long)

  -- so marks change a list's answer only where they change what is found in it
  pub remarked_list : (initial list : List ℕ) → looked kind net initial list ≡ looked kind (remarked net marks) initial list → (fits : Bool) (next : Fault) → list_of kind net initial list fits next ≡ list_of kind (remarked net marks) initial list fits next
  unfolding list_of
  remarked_list initial list e fits next = rw (remarked_given initial list fits next, e)
