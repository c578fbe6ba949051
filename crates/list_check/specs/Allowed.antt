-- To be believed: all that document 01 asks of what is lent with a list, and with a target after it; and which refusal is given exactly
-- when, by 01's table: in number order, and for one number the net first, then the initial marking, the list, the target.
use Rattle.std.specs.Prelude.{ℕ, ◌≡◌, List, length}
use Rattle.net.specs.Net.{Net, Light, Sized}
use Rattle.wiring.specs.Wired.{Wired}
use Rattle.refusals.specs.Given.{Fine}
use Rattle.refusals.specs.First.{StartFirst, LooseFirst}
use Rattle.list_refusals.specs.Demands.{WholeMarkings, EntriesFine, TargetFine, SomeMarkings, EntriesFirst, TargetFirst, SizeFirst}
use Rattle.lists.specs.declared.Kind.{Kind}
use Rattle.lists.specs.declared.Kind.TheVariants.{Closed}

-- a list alone, with its net and the initial marking
pub record ListAllowed (kind : Kind) (net : Net) (initial list : List ℕ) : Type 0 where
  pub sized : Sized net
  pub light : Light net
  pub marked : length initial ≡ net.places
  pub whole : WholeMarkings net.places list
  pub fine : Fine net.caps initial
  pub entries : kind ≡ Closed → EntriesFine net.places net.caps list
  pub wired : Wired net
  pub some : SomeMarkings net.places list

-- refusal n at position at
abbrev pub ListRefused : Kind → Net → List ℕ → List ℕ → ℕ → ℕ → Type 0
ListRefused kind net initial list n at =
    StartFirst net initial (WholeMarkings net.places list) n at
    (EntriesFirst kind net.places net.caps list n at
    (LooseFirst net n at
    (SizeFirst net.places list n at ⊥)))

-- a list with a target
pub record TargetAllowed (kind : Kind) (net : Net) (initial list target : List ℕ) : Type 0 where
  pub listed : ListAllowed kind net initial list
  pub long : length target ≡ net.places
  pub fine : TargetFine target

-- refusal n at position at
abbrev pub TargetRefused : Kind → Net → List ℕ → List ℕ → List ℕ → ℕ → ℕ → Type 0
TargetRefused kind net initial list target n at =
    StartFirst net initial (WholeMarkings net.places list × (length target ≡ net.places)) n at
    (EntriesFirst kind net.places net.caps list n at
    (TargetFirst target n at
    (LooseFirst net n at
    (SizeFirst net.places list n at ⊥))))
