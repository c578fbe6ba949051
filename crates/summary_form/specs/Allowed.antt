-- To be believed: refusal 6 of a summary, for every question that is lent one, and which slot is its position.
use Rattle.std.specs.Prelude.{ℕ, ◌≤◌}
use Rattle.ground.specs.Limits.{count_limit, weight_limit, word_limit}
use Rattle.refusals.specs.First.{First, Given, GivenAt}
use Rattle.summary_form.specs.Summary.{FormedAt, SlotsFormed}
use Rattle.summary_form.specs.declared.Summary.{Summary}

-- 6, "a summary isn't well formed", with position "0 if n is too large, else the lowest place or slot"; `Next` is what comes after it
abbrev pub FormedFirst : Summary → ℕ → ℕ → Type 0 → Type 0
FormedFirst s n at Next =
    First (s.letters ≤ word_limit) (Given 6 0 n at) (First (SlotsFormed weight_limit s) (GivenAt 6 (FormedAt weight_limit s) count_limit n at) Next)
