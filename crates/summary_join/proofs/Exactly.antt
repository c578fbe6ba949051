-- "Given exactly when": what is allowed is answered, what is answered is allowed, and each refusal is the one of the first demand that does not hold.
-- Each is said of whatever keeps the entry's promise. Assumes nothing.
use Rattle.std.specs.Prelude.{Ok}
use Prim.Native.Nat.{ℕ, ◌+◌}
use mathlib.Core.Path.{◌≡◌, ◌∙◌}
use mathlib.Core.Bool.{false, ◌||◌}
use mathlib.Core.Logic.{◌↔◌}
use borrow.Author.Tests.{le-ltb, ltb-false}
use Rattle.ground.specs.Limits.{word_limit}
use Rattle.ground.proofs.Tests.{or-false, both_false, unlike_false, like_false}
use Rattle.refusals.specs.Given.{Answer, refused, outside}
use Rattle.refusals.proofs.Exactly.{Answers, Chain, answers_ok, tells_test, reads_test, reads_both, reads_all, exactly_refused, is_answered, is_allowed}
use Rattle.summary_form.specs.Summary.{Count}
use Rattle.summary_join.specs.Join.{join_summary, later_fault, join_fault, join_answer}
use Rattle.summary_join.specs.Allowed.{JoinAllowed, JoinRefusal}
use Rattle.summary_form.specs.declared.Summary.{Summary}
use Rattle.summary_form.proofs.Formed.{count_of, of_count}
use Rattle.summary_join.proofs.Joining.{join_allowed_of, of_join_allowed}
use Rattle.summary_form.proofs.Exactly.{formed_reads}

-- ---- a join
join_chain : (a b : Summary) → Chain (join_fault a b) (JoinRefusal a b)
unfolding join_fault later_fault
join_chain a b =
    reads_all
    (reads_both (reads_test (tells_test _ 1 0 counts_of of_counts))
    (reads_both (reads_test (tells_test _ 2 0 (unlike_false a.places b.places) (like_false a.places b.places)))
    (reads_both (formed_reads a)
    (reads_both (formed_reads b)
    (reads_test (tells_test _ 7 0 (λ e. ltb-false word_limit (a.letters + b.letters) e) (λ h. le-ltb word_limit (a.letters + b.letters) h)))))))
  where
    counts_of : (outside a.places || outside b.places) ≡ false → Count a.places × Count b.places
    counts_of e = let o = or-false (outside a.places) (outside b.places) e in (count_of a.places o.0, count_of b.places o.1)

    of_counts : Count a.places × Count b.places → (outside a.places || outside b.places) ≡ false
    of_counts c = both_false _ _ (of_count a.places c.0) (of_count b.places c.1)

module _ (a b : Summary) (r : Answer Summary) (p : r ≡ join_answer a b) where
  join_answers : Answers (join_fault a b) r
  join_answers = answers_ok (join_fault a b) (join_summary a b) r p

  pub join_refused_exactly : (n at : ℕ) → (r ≡ refused n at) ↔ JoinRefusal a b n at
  join_refused_exactly = exactly_refused join_answers (join_chain a b)

  pub join_allowed_answered : JoinAllowed a b → (n at : ℕ) → r ≡ refused n at → ⊥
  join_allowed_answered = is_answered join_answers (of_join_allowed a b)

  pub join_allowed_made : JoinAllowed a b → r ≡ Ok (join_summary a b)
  join_allowed_made j = p ∙ rw (of_join_allowed a b j)

  pub join_answered_allowed : ((n at : ℕ) → r ≡ refused n at → ⊥) → JoinAllowed a b
  join_answered_allowed = is_allowed join_answers (join_allowed_of a b)
