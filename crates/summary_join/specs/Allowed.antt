-- To be believed: what 01 asks of two summaries to be joined, and which refusal is given exactly when.
use Rattle.std.specs.Prelude.{ℕ, ◌+◌, ◌≤◌, ◌≡◌}
use Rattle.ground.specs.Limits.{word_limit}
use Rattle.refusals.specs.First.{First, Given}
use Rattle.summary_form.specs.Summary.{WellFormed, Count}
use Rattle.summary_form.specs.declared.Summary.{Summary}
use Rattle.summary_form.specs.Allowed.{FormedFirst}

-- ---- a join
pub record JoinAllowed (a b : Summary) : Type 0 where
  pub first_count : Count a.places
  pub second_count : Count b.places
  pub like : a.places ≡ b.places
  pub first_formed : WellFormed a
  pub second_formed : WellFormed b
  pub few : a.letters + b.letters ≤ word_limit

abbrev pub JoinRefusal : Summary → Summary → ℕ → ℕ → Type 0
JoinRefusal a b n at =
    First (Count a.places × Count b.places) (Given 1 0 n at)
    (First (a.places ≡ b.places) (Given 2 0 n at)
    (FormedFirst a n at (FormedFirst b n at (First (a.letters + b.letters ≤ word_limit) (Given 7 0 n at) ⊥))))
