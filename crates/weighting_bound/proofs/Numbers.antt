-- The numbers of an answer tell any two apart: an answer can be read back from them. So the promise has one answer. Assumes nothing.
use Rattle.std.specs.Prelude.{Ok, Err}
use Rattle.refusals.specs.Given.{Answer, refused}
use Prim.Native.Nat.{ℕ}
use mathlib.Core.Path.{◌≡◌, refl, sym, ◌∙◌}
use mathlib.Core.Bool.{cond}
use mathlib.Core.List.{List, [], ◌∷◌}
use lib.Dec.{eqb}
use lib.IntN.{ℤ}
use Rattle.net.specs.Net.{Net}
use Rattle.weighting_bound.specs.Bound.{bound_of, bound_numbers}
use Rattle.weighting_bound.specs.declared.NoBoundCause.{NoBoundCause}
use Rattle.weighting_bound.specs.declared.NoBoundCause.TheVariants.{NotInvariant, Negative, NotPositive}
use Rattle.weighting_bound.specs.declared.Bound.{Bound}
use Rattle.weighting_bound.specs.declared.Bound.TheVariants.{Bounded, NoBound}
use Rattle.weighting_sums.proofs.Numbers.{apart}

abbrev cause_back : ℕ → NoBoundCause
cause_back n = cond (eqb n 1) NotInvariant (cond (eqb n 2) Negative NotPositive)

abbrev bound_back : List ℕ → Answer Bound
bound_back (k ∷ n ∷ v ∷ l) = cond (eqb k 0x82) (refused n v) (cond (eqb n 0) (Ok (Bounded v)) (Ok (NoBound (cause_back v))))
bound_back (k ∷ n ∷ []) = Ok (Bounded 0)
bound_back (k ∷ []) = Ok (Bounded 0)
bound_back [] = Ok (Bounded 0)

bound_back_lem : (a : Answer Bound) → bound_back (bound_numbers a) ≡ a
bound_back_lem (Ok (Bounded b)) = refl
bound_back_lem (Ok (NoBound NotInvariant)) = refl
bound_back_lem (Ok (NoBound Negative)) = refl
bound_back_lem (Ok (NoBound NotPositive)) = refl
bound_back_lem (Err r) = refl

pub bound_numbers_apart : (a b : Answer Bound) → bound_numbers a ≡ bound_numbers b → a ≡ b
bound_numbers_apart = apart bound_numbers bound_back bound_back_lem

-- the promise has one answer
pub bound_unique : (net : Net) (initial : List ℕ) (y : List ℤ) (place : ℕ) (r r' : Answer Bound) → bound_numbers r ≡ bound_numbers (bound_of net initial y place) → bound_numbers r' ≡ bound_numbers (bound_of net initial y place) → r ≡ r'
bound_unique net initial y place r r' p q = bound_numbers_apart r r' (p ∙ sym q)
