-- Marks that are alike change no answer about a closed list (document 02, E5; `uncapped_plain` and `marks_alike` of crate net say which are). Assumes nothing.
use Rattle.std.specs.Prelude.{Ok}
use Prim.Native.Nat.{ℕ}
use mathlib.Core.Path.{◌≡◌, sym, ap, ◌∙◌}
use mathlib.Core.Bool.{Bool, true, not, ◌&&◌}
use mathlib.Core.List.{List}
use lib.ListN.{length}
use lib.Dec.{eqb}
use Rattle.net.specs.Net.{Net}
use Rattle.refusals.specs.Given.{Answer}
use Rattle.net.specs.Letter.{fired_at}
use Rattle.net.specs.Marks.{remarked, MarksAlike}
use Rattle.net.proofs.Pockets.{alike_passes}
use Rattle.lists.specs.Whole.{count, marking_at}
use Rattle.lists.specs.Match.{held}
use Rattle.lists.specs.Some.{some, none}
use Rattle.lists.specs.Pairs.{looked_of}
use Rattle.lists.specs.Answers.{numbers, claim_numbers, claim_of}
use Rattle.lists.specs.declared.Kind.TheVariants.{Closed}
use Rattle.lists.specs.declared.ListAnswer.{ListAnswer}
use Rattle.lists.specs.declared.ClaimAnswer.{ClaimAnswer}
use Rattle.list_pairs.specs.Look.{absent, missing, looked}
use Rattle.list_refusals.specs.Given.{target_fault}
use Rattle.list_check.specs.Given.{list_of, target_of}
use Rattle.list_check.proofs.Marks.{remarked_list}
use Rattle.closed.specs.Dead.{some_dead}
use Rattle.closed.specs.Stall.{stall_of}
use Rattle.closed.proofs.Meaning.{unique_list, unique_target, unique_stall}

module _ (net : Net) (marks : List ℕ) (alike : MarksAlike net.caps net.marks marks) (initial list : List ℕ) where
  same_missing : (n k t : ℕ) → missing Closed net n list k t ≡ missing Closed (remarked net marks) n list k t
  unfolding absent
  same_missing n k t =
      ap (λ (b : Bool). b && not (held Closed net.places n list (fired_at net t (marking_at net.places list k))))
      (alike_passes net marks alike t (marking_at net.places list k))

  same_looked : looked Closed net initial list ≡ looked Closed (remarked net marks) initial list
  same_looked =
      ap (λ (f : ℕ → ℕ → Bool). looked_of (held Closed net.places (count net.places list) list initial) f net.transitions (count net.places list))
      (λ j k t. same_missing (count net.places list) k t j)

  same_dead : some_dead net (count net.places list) list ≡ some_dead (remarked net marks) (count net.places list) list
  same_dead =
      ap (λ (f : ℕ → ℕ → Bool). some (λ k. none (f k) net.transitions) (count net.places list))
      (λ j k t. alike_passes net marks alike t (marking_at net.places list k) j)

  -- two questions that differ in the marks only have one answer
  pub closed_list_alike : (r r' : Answer ListAnswer) → numbers r ≡ numbers (list_of Closed net initial list true (Ok tt)) → numbers r' ≡ numbers (list_of Closed (remarked net marks) initial list true (Ok tt)) → r ≡ r'
  closed_list_alike r r' p q =
      unique_list net initial list r r' p (q ∙ ap numbers (sym (remarked_list Closed net marks alike.long initial list same_looked true (Ok tt))))

  pub closed_target_alike : (m : List ℕ) (r r' : Answer ClaimAnswer) → claim_numbers r ≡ claim_numbers (target_of Closed net initial list m) → claim_numbers r' ≡ claim_numbers (target_of Closed (remarked net marks) initial list m) → r ≡ r'
  closed_target_alike m r r' p q =
      unique_target net initial list m r r' p
      (q
      ∙ ap (λ (a : Answer ListAnswer). claim_numbers (claim_of a (held Closed net.places (count net.places list) list m)))
      (sym (remarked_list Closed net marks alike.long initial list same_looked (eqb (length m) net.places) (target_fault m))))

  pub closed_stall_alike : (r r' : Answer ClaimAnswer) → claim_numbers r ≡ claim_numbers (stall_of net initial list) → claim_numbers r' ≡ claim_numbers (stall_of (remarked net marks) initial list) → r ≡ r'
  closed_stall_alike r r' p q =
      unique_stall net initial list r r' p
      (q
      ∙ ap (λ (a : Answer ListAnswer). claim_numbers (claim_of a (some_dead (remarked net marks) (count net.places list) list)))
      (sym (remarked_list Closed net marks alike.long initial list same_looked true (Ok tt)))
      ∙ ap (λ (b : Bool). claim_numbers (claim_of (list_of Closed net initial list true (Ok tt)) b)) (sym same_dead))
