-- Demands 2 and 1, from the promise: what is true of the net, over the published relation, where an entry has answered so. Assumes nothing.
use Rattle.std.specs.Prelude.{Ok}
use Rattle.refusals.specs.Given.{Answer}
use Prim.Native.Nat.{ℕ, ◌≤◌}
use mathlib.Core.Path.{◌≡◌, sym, ◌∙◌}
use mathlib.Core.List.{List}
use lib.IntN.{ℤ}
use Rattle.ground.specs.Limits.{token_limit}
use Rattle.net.specs.Net.{Net, tokens}
use Rattle.net.specs.Firing.{Reachable}
use Rattle.weighting_sums.proofs.Largest.{InRange, SumFits}
use Rattle.weighting_bound.specs.Bound.{bound_of, bound_numbers}
use Rattle.weighting_bound.specs.declared.Bound.{Bound}
use Rattle.weighting_bound.specs.declared.Bound.TheVariants as bound
use Rattle.weighting_bound.proofs.Numbers.{bound_numbers_apart}
use Rattle.weighting_bound.proofs.Meaning.{bound_holds, bound_most}

-- `place_bound`: the bound on a place holds at every reachable marking
module _ (net : Net) (initial : List ℕ) (y : List ℤ) (p : ℕ) (r : Answer Bound) (promise : bound_numbers r ≡ bound_numbers (bound_of net initial y p)) where
  pub bounded_holds : (b : ℕ) → r ≡ Ok (bound.Bounded b) → (m : List ℕ) → Reachable net initial m → tokens m p ≤ b
  bounded_holds b e m f = bound_holds y p b (sym (bound_numbers_apart r (bound_of net initial y p) promise) ∙ e) f

  -- and it is no larger than the largest sum of a given marking, which 64 bits hold
  pub bound_fits : InRange y → (b : ℕ) → r ≡ Ok (bound.Bounded b) → SumFits token_limit b
  bound_fits range b e = bound_most net initial y p b range (sym (bound_numbers_apart r (bound_of net initial y p) promise) ∙ e)
