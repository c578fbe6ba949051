-- The sum that the code weighs is the published one. Assumes nothing.
use Prim.Native.Nat.{ℕ, ◌≤◌}
use mathlib.Core.Path.{◌≡◌, sym, ap, ◌∙◌}
use mathlib.Core.Bool.{true}
use mathlib.Core.List.{List}
use lib.ListN.{length}
use lib.IntN.{ℤ}
use Rattle.ground.specs.Parts.{up}
use Rattle.net.specs.Net.{Net}
use Rattle.weighting_sums.specs.Weighting.{weight}
use Rattle.weighting_sums.specs.Tests.{lowest_entry}
use Rattle.weighting_sums.specs.Walk.{total, held}
use Rattle.weighting_sums.proofs.Entries.{no_negative, weight_is}

pub weighed : (net : Net) (initial : List ℕ) (y : List ℤ) → length y ≤ lowest_entry true y → length initial ≡ net.places → total (length initial) (held y initial) ≡ up (weight net y initial)
weighed net initial y l long = ap (λ (n : ℕ). total n (held y initial)) long ∙ sym (ap up (weight_is net y initial (no_negative y l)))
