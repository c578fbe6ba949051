-- To be believed: what 01 asks of what is lent where a summary is asked against a marking, and which refusal is given exactly when.
use Rattle.std.specs.Prelude.{ℕ, ◌≡◌, List, length}
use Rattle.net.specs.Net.{Net, Light, Sized}
use Rattle.wiring.specs.Wired.{Wired}
use Rattle.refusals.specs.Given.{Fine}
use Rattle.refusals.specs.First.{First, Given, MarkedFirst}
use Rattle.summary_form.specs.Summary.{WellFormed, Count}
use Rattle.summary_form.specs.declared.Summary.{Summary}
use Rattle.summary_form.specs.Allowed.{FormedFirst}

-- ---- a summary asked against a marking, with a room for the end marking
pub record AskAllowed (net : Net) (m : List ℕ) (s : Summary) (room : List ℕ) : Type 0 where
  pub sized : Sized net
  pub light : Light net
  pub marked : length m ≡ net.places
  pub roomy : length room ≡ net.places
  pub counted : s.places ≡ net.places
  pub fine : Fine net.caps m
  pub wired : Wired net
  pub formed : WellFormed s

-- 1 for the summary's own place count too
abbrev pub AskRefusal : Net → List ℕ → Summary → List ℕ → ℕ → ℕ → Type 0
AskRefusal net m s room n at =
    First (Count s.places) (Given 1 0 n at)
    (MarkedFirst net m ((length room ≡ net.places) × (s.places ≡ net.places)) n at (FormedFirst s n at ⊥))
