-- To be believed: the refusals of a weighting, by number. proofs/Allowed.antt shows that they are given as published.
use Rattle.refusals.specs.Given.{Fault}
use Rattle.std.specs.Prelude.{ℕ, List, length, eqb, ℤ}
use Rattle.net.specs.Net.{Net}
use Rattle.refusals.specs.Given.{refuse, or_else, net_fault}
use Rattle.weighting_sums.specs.Tests.{all_zero}

-- refusals 1, 2, 18 and 17, then 8, for a weighting that has n entries
abbrev pub weighting_fault : Net → ℕ → List ℤ → Fault
weighting_fault net n y = or_else (net_fault net (eqb (length y) n)) (refuse (all_zero y) 8 0)
