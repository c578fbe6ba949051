-- "Cover lists ... don't change" (document 02, E5): no answer about a cover list depends on the marks, whatever they are. Assumes nothing.
use Rattle.std.specs.Prelude.{Ok}
use Prim.Native.Nat.{ℕ}
use mathlib.Core.Path.{◌≡◌, refl, sym, ap, ◌∙◌}
use mathlib.Core.Bool.{true}
use mathlib.Core.List.{List}
use lib.ListN.{length}
use lib.Dec.{eqb}
use Rattle.net.specs.Net.{Net}
use Rattle.refusals.specs.Given.{Answer}
use Rattle.net.specs.Marks.{remarked}
use Rattle.lists.specs.Whole.{count}
use Rattle.lists.specs.Match.{held}
use Rattle.lists.specs.Answers.{numbers, claim_numbers, claim_of}
use Rattle.lists.specs.declared.Kind.TheVariants.{Cover}
use Rattle.lists.specs.declared.ListAnswer.{ListAnswer}
use Rattle.lists.specs.declared.ClaimAnswer.{ClaimAnswer}
use Rattle.list_pairs.specs.Look.{absent, looked}
use Rattle.list_refusals.specs.Given.{target_fault}
use Rattle.list_check.specs.Given.{list_of, target_of}
use Rattle.list_check.proofs.Marks.{remarked_list}
use Rattle.cover.proofs.Meaning.{unique_list, unique_target}

module _ (net : Net) (marks : List ℕ) (long : length marks ≡ length net.marks) (initial list : List ℕ) where
  same_looked : looked Cover net initial list ≡ looked Cover (remarked net marks) initial list
  unfolding absent
  same_looked = refl

  pub cover_list_unmarked : (r r' : Answer ListAnswer) → numbers r ≡ numbers (list_of Cover net initial list true (Ok tt)) → numbers r' ≡ numbers (list_of Cover (remarked net marks) initial list true (Ok tt)) → r ≡ r'
  cover_list_unmarked r r' p q =
      unique_list net initial list r r' p (q ∙ ap numbers (sym (remarked_list Cover net marks long initial list same_looked true (Ok tt))))

  pub cover_target_unmarked : (m : List ℕ) (r r' : Answer ClaimAnswer) → claim_numbers r ≡ claim_numbers (target_of Cover net initial list m) → claim_numbers r' ≡ claim_numbers (target_of Cover (remarked net marks) initial list m) → r ≡ r'
  cover_target_unmarked m r r' p q =
      unique_target net initial list m r r' p
      (q
      ∙ ap (λ (a : Answer ListAnswer). claim_numbers (claim_of a (held Cover net.places (count net.places list) list m)))
      (sym (remarked_list Cover net marks long initial list same_looked (eqb (length m) net.places) (target_fault m))))
