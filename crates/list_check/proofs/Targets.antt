-- Laws of a target asked of a list: its answer where the list's is a refusal or a failure. Assumes nothing.
use Prim.Native.Nat.{ℕ}
use mathlib.Core.Path.{◌≡◌, sym, ap, ◌∙◌}
use mathlib.Core.List.{List}
use lib.ListN.{length}
use lib.Dec.{eqb}
use Rattle.std.specs.Prelude.{Ok}
use Rattle.net.specs.Net.{Net}
use Rattle.refusals.specs.Given.{Answer, Fault, refused}
use Rattle.list_refusals.specs.Given.{target_fault}
use Rattle.lists.specs.Answers.{claim_of}
use Rattle.lists.specs.declared.Failure.{Failure}
use Rattle.lists.specs.declared.Kind.{Kind}
use Rattle.lists.specs.declared.ListAnswer.{ListAnswer}
use Rattle.lists.specs.declared.ListAnswer.TheVariants as list
use Rattle.lists.specs.declared.ClaimAnswer.TheVariants as claim
use Rattle.list_check.specs.Given.{list_of, target_of}

-- the list's answer is found, with the target after it
module _ (kind : Kind) (net : Net) (initial l m : List ℕ) (next : Fault) (en : next ≡ target_fault m) (found : Answer ListAnswer) (e : found ≡ list_of kind net initial l (eqb (length m) net.places) next) where
  found_is : found ≡ list_of kind net initial l (eqb (length m) net.places) (target_fault m)
  found_is = e ∙ ap (list_of kind net initial l (eqb (length m) net.places)) en

  pub target_refused : (n at : ℕ) → found ≡ refused n at → refused n at ≡ target_of kind net initial l m
  unfolding claim_of
  target_refused n at q = rw (sym found_is ∙ q)

  pub target_failed : (why : Failure) → found ≡ Ok (list.Failed why) → Ok (claim.Failed why) ≡ target_of kind net initial l m
  unfolding claim_of
  target_failed why q = rw (sym found_is ∙ q)
