-- To be believed: what 01 asks of what is lent for the empty summary, a word's and a stretch's, and which refusal is given exactly when.
use Rattle.std.specs.Prelude.{ℕ, ◌≤◌, List, length}
use Rattle.ground.specs.Limits.{word_limit}
use Rattle.net.specs.Net.{Net, Light, Sized}
use Rattle.wiring.specs.Wired.{Wired}
use Rattle.refusals.specs.Given.{stretch, Letters}
use Rattle.refusals.specs.First.{First, Given, NetFirst, WordFirst}
use Rattle.summary_form.specs.Summary.{Count}

-- ---- the empty summary: a place count in range, else 1
abbrev pub EmptyAllowed : ℕ → Type 0
EmptyAllowed P = Count P

abbrev pub EmptyRefusal : ℕ → ℕ → ℕ → Type 0
EmptyRefusal P n at = First (Count P) (Given 1 0 n at) ⊥

-- ---- a word's summary
pub record WordAllowed (net : Net) (w : List ℕ) : Type 0 where
  pub sized : Sized net
  pub light : Light net
  pub wired : Wired net
  pub short : length w ≤ word_limit
  pub letters : Letters net.transitions w

-- else the refusal of the first demand that does not hold; beside the net nothing is lent that has a length
abbrev pub WordRefusal : Net → List ℕ → ℕ → ℕ → Type 0
WordRefusal net w n at = NetFirst net (Unit {0}) n at (WordFirst net.transitions w n at ⊥)

-- ---- a stretch's summary
-- 2 unless a stretch ends neither before its start nor past its word
pub record Inside (w : List ℕ) (a b : ℕ) : Type 0 where
  pub forward : a ≤ b
  pub within : b ≤ length w

-- "refusals 4 and 5 look at the stretch only"
pub record StretchAllowed (net : Net) (w : List ℕ) (a b : ℕ) : Type 0 where
  pub sized : Sized net
  pub light : Light net
  pub inside : Inside w a b
  pub wired : Wired net
  pub short : length (stretch w a b) ≤ word_limit
  pub letters : Letters net.transitions (stretch w a b)

abbrev pub StretchRefusal : Net → List ℕ → ℕ → ℕ → ℕ → ℕ → Type 0
StretchRefusal net w a b n at = NetFirst net (Inside w a b) n at (WordFirst net.transitions (stretch w a b) n at ⊥)
